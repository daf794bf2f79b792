use native.Mathlib.Omega.{arith}
use Rattle.meaning.specs.Limits.{terms, triples}
use Rattle.asked.proofs.Narrowing.{one_written, all_written}
use Rattle.asked.proofs.narrow.lay_out.Goals as goal

pub loop-t-preserved : goal.loop-t-preserved
unfolding terms triples
loop-t-preserved c =
    let w = c.loop-t.invariant in
    one_written w (omega arith) (w.below _ (omega arith))

pub returns : goal.returns
unfolding terms
returns c = all_written c.loop-t.invariant (omega arith)
