-- `asked::chase::chase` meets its contract: each turn is at the question that is next, and when there is none, no question waits.
-- The measure is what is left of the turns that the queue may give, and the questions that are not served.
use Prim.Native.Nat.{◌+◌, ◌-◌}
use Rattle.asked.specs.Mark.{blank}
use Rattle.asked.specs.Serve.{serveds, most}
use Rattle.asked.specs.Task.{ChasedIn}
use Rattle.asked.proofs.chase.chase.Given as goal

abbrev pub invariant-loop-r : goal.invariant-loop-r
invariant-loop-r l = ChasedIn l.task l.numbers l.initial.asked l.initial.ends l.asked l.ends

abbrev pub decreases-loop-r : goal.decreases-loop-r
decreases-loop-r l = most - l.queue.head + blank (serveds l.asked)
