use mathlib.Core.Path.{refl}
use native.Mathlib.Omega.{arith}
use Rattle.meaning.specs.Limits.{terms, triples, records}
use Rattle.asked.proofs.Narrowing.{row_written}
use Rattle.asked.proofs.narrow.lay_out_all.Goals as goal

pub loop-p-preserved : goal.loop-p-preserved
unfolding terms triples records
loop-p-preserved c =
    let w = c.loop-p.invariant in
    row_written w c.lay_out.ensures refl refl (λ t h. w.below _ (omega arith))
