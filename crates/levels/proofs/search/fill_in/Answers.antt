-- `levels::search::fill_in` meets its contract: the works of the record, as it is read at its place.
use Rattle.levels.proofs.Hints.{hinted_none, hinted_works}
use native.Mathlib.Omega.{arith}
use Rattle.levels.proofs.search.fill_in.Goals as goal

pub returns-then-task-r : goal.returns-then-task-r
returns-then-task-r c = hinted_none

pub returns : goal.returns
returns c =
    let node = c.of-node.ensures in
    hinted_works c.args.task.now.ready c.if-task-r.false node.0 (omega arith) (rw node.1 at c.column.ensures)
