-- `path::enter::begin` meets its contract, case by case of a step before or none.
use Rattle.path.proofs.Leading.{begin_whole, begin_after}
use Rattle.path.proofs.enter.begin.Goals as goal

pub returns-then-count-ne0 : goal.returns-then-count-ne0
returns-then-count-ne0 c = rw c.in-None.is (begin_whole c.if-count-ne0.true c.mark.ensures)

pub returns-in-Some : goal.returns-in-Some
returns-in-Some c = rw c.in-Some.is (begin_after c.follow.ensures)
