-- `path::enter::follow` meets its contract. The loop's invariant is the walk up the links; its measure is the records above.
use Prim.Native.Nat.{◌-◌}
use Rattle.meaning.specs.Limits.{records}
use Rattle.path.proofs.Climbing.{Climbing}
use Rattle.path.proofs.enter.follow.Given as goal

abbrev pub invariant-loop-shut : goal.invariant-loop-shut
invariant-loop-shut l = Climbing l.links.up l.links.role l.r l.initial.shut l.shut l.was l.changed l.at

abbrev pub decreases-loop-shut : goal.decreases-loop-shut
decreases-loop-shut l = records - l.at
