use native.Mathlib.Omega.{arith}
use Rattle.meaning.specs.Limits.{terms}
use Rattle.fewest.proofs.Sweeps.{lowers_chain, swept_none}
use Rattle.fewest.proofs.Loops.{seen_none, seen_more}
use Rattle.fewest.proofs.Rowwise.{copied, row_looked, row_swept}
use Rattle.fewest.proofs.sweep.sweep_row.Goals as goal

pub returns-then-not-above : goal.returns-then-not-above
returns-then-not-above c = λ F. swept_none lowers_chain (λ t v h o. copied o (c.above.ensures c.if-not-above.true t h))

pub loop-t-init : goal.loop-t-init
loop-t-init c = λ F. seen_none lowers_chain

pub number-v-requires : goal.number-v-requires
unfolding terms
number-v-requires c = omega arith

pub lower-changed-requires : goal.lower-changed-requires
unfolding terms
lower-changed-requires c = omega arith

pub loop-t-preserved : goal.loop-t-preserved
unfolding terms
loop-t-preserved c =
    λ F. seen_more lowers_chain (c.loop-t.invariant F) (row_looked (omega arith) c.number-v.ensures.0 c.lower-changed.ensures)

pub returns : goal.returns
unfolding terms
returns c = λ F. row_swept (omega arith) (c.loop-t.invariant F)
