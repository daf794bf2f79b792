-- `levels::search::climb` meets its contract: parent after parent, as the hints say, each above the one before.
-- The measure is the records above.
use Prim.Native.Nat.{◌-◌, ◌<◌}
use Rattle.meaning.specs.Limits.{records}
use Rattle.levels.specs.Levelled.{HintedFor}
use Rattle.levels.proofs.search.climb.Given as goal

abbrev pub invariant-loop-operand : goal.invariant-loop-operand
invariant-loop-operand l = (l.operand < records) × HintedFor l.task l.initial.numbers l.numbers

abbrev pub decreases-loop-operand : goal.decreases-loop-operand
decreases-loop-operand l = records - l.operand
