-- `levels::sets::orders` meets its contract, one record after another.
use Rattle.fewest.specs.Kept.{Kept}
use Rattle.levels.proofs.sets.orders.Given as goal

abbrev pub invariant-loop-r : goal.invariant-loop-r
invariant-loop-r l = Kept l.initial.scratch l.scratch
