use Prim.Native.Nat.{◌%◌}
use mathlib.Core.Path.{refl, ap}
use native.Mathlib.Omega.{arith}
use Rattle.meaning.specs.Limits.{terms, triples, records}
use Rattle.asked.specs.Words.{eight, bit}
use Rattle.asked.proofs.Narrowing.{row_written}
use Rattle.asked.proofs.narrow.narrow_rows.Goals as goal

pub loop-r-preserved : goal.loop-r-preserved
unfolding terms triples records
loop-r-preserved c =
    let at = c.loop-r in
    let w = at.invariant in
    row_written w c.narrow_row.ensures (omega arith) refl (λ t h. ap (λ x. bit x (at.r % eight)) (w.above _ (omega arith)))
