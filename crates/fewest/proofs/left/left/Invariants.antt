-- `fewest::left::left` meets its contract. The loop's invariant is the walk up the links; its measure is the records above.
use Prim.Native.Nat.{◌-◌}
use Rattle.meaning.specs.Limits.{records}
use Rattle.fewest.specs.Pairs.{pairs}
use Rattle.fewest.specs.Work.{goal_of}
use Rattle.fewest.proofs.Walk.{Walked}
use Rattle.fewest.proofs.left.left.Given as goal

abbrev pub invariant-loop-best : goal.invariant-loop-best
invariant-loop-best l = Walked l.ahead.links.now.up l.ahead.links.now.role (goal_of l.ahead.goal) (pairs l.numbers) l.r l.u l.at l.best

abbrev pub decreases-loop-best : goal.decreases-loop-best
decreases-loop-best l = records - l.at
