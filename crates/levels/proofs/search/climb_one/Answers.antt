-- `levels::search::climb_one` meets its contract: what may pass empty, and then the works of the record above.
use Rattle.levels.specs.Levelled.{HintedFor}
use Rattle.levels.proofs.Hints.{hinted_none, hinted_then, hinted_works}
use native.Mathlib.Omega.{arith}
use Rattle.levels.proofs.search.climb_one.Goals as goal
use Rattle.levels.proofs.search.climb_one.Goals.{in-Some, in_default}

pub returns : goal.returns
returns c =
    let passed : HintedFor c.args.task.now c.args.numbers.now c.match-finished_by.numbers =
    elim c.match-finished_by.branch [
      | in-Some w ↦ rw w.numbers-is w.pass.ensures
      | in_default w ↦ rw w.numbers-is hinted_none
    ] in
    let node = c.of-node.ensures in
    hinted_then passed
    (hinted_works c.args.task.now.ready c.if-task-above.false node.0 (omega arith) (rw node.1 at c.column.ensures))
