use native.Mathlib.Omega.{arith}
use Rattle.asked.specs.Count.{part}
use Rattle.asked.specs.Seek.{Bits}
use Rattle.asked.proofs.Sums.{sum_none, sum_more}
use Rattle.asked.proofs.count.count_part.Goals as goal

pub loop-one-init : goal.loop-one-init
loop-one-init c = (omega arith, sum_none c.args.ones.now)

pub overflow_add-n : goal.overflow_add-n
unfolding Bits part
overflow_add-n c = omega (arith, c.requires.0 c.loop-one.one-index)

pub loop-one-preserved : goal.loop-one-preserved
unfolding Bits
loop-one-preserved c =
    let at = c.loop-one in
    (omega (arith, c.requires.0 at.one-index), omega (arith, sum_more c.args.ones.now at.one-index c.loop-one-test.true))
