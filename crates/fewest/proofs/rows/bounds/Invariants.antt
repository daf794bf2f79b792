-- `fewest::rows::bounds` meets its contract. The loop's invariant is the walk up the links; its measure is the records above.
use Prim.Native.Nat.{◌-◌}
use Rattle.meaning.specs.Limits.{records}
use Rattle.fewest.specs.Pairs.{pairs}
use Rattle.fewest.specs.Work.{goal_of}
use Rattle.fewest.proofs.Quieting.{Climbed}
use Rattle.fewest.proofs.rows.bounds.Given as goal

abbrev pub invariant-loop-at : goal.invariant-loop-at
invariant-loop-at l = Climbed l.ahead.links.now.up l.ahead.links.now.role (goal_of l.ahead.goal) (pairs l.numbers) l.b l.r l.at

abbrev pub decreases-loop-at : goal.decreases-loop-at
decreases-loop-at l = records - l.at
