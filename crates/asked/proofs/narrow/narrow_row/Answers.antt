use Prim.Native.Nat.{◌%◌}
use mathlib.Core.Path.{ap, ◌∙◌}
use native.Mathlib.Omega.{arith}
use lib.Bits.{and_mask}
use Rattle.meaning.specs.Limits.{terms, triples, records}
use Rattle.asked.specs.Words.{eight, bit}
use Rattle.asked.proofs.Narrowing.{one_written}
use Rattle.asked.proofs.narrow.narrow_row.Goals as goal

pub loop-t-preserved : goal.loop-t-preserved
unfolding terms triples records
loop-t-preserved c =
    let w = c.loop-t.invariant in
    one_written w (omega arith) (and_mask _ 1 ∙ ap (λ x. bit x (c.args.r % eight)) (w.above _ (omega arith)))
