use Rattle.path.proofs.Sweeping.{sweep_exactly}
use Rattle.path.proofs.enter.enter.Goals as goal

pub returns : goal.returns
returns c = sweep_exactly c.sweep.ensures c.loop-after-test.false c.loop-after.invariant
