-- `asked::follow::follow` meets its contract. The loop's invariant is the walk up the links; its measure is the records above.
use Prim.Native.Nat.{◌-◌}
use Rattle.meaning.specs.Limits.{records}
use Rattle.asked.proofs.Climb.{Climbed}
use Rattle.asked.proofs.follow.follow.Given as goal

abbrev pub invariant-loop-set : goal.invariant-loop-set
invariant-loop-set l = Climbed l.ahead.links.now.up l.ahead.links.now.role l.r l.at l.set

abbrev pub decreases-loop-set : goal.decreases-loop-set
decreases-loop-set l = records - l.at
