-- `levels::search::take_set` meets its contract: step by step of the set.
use Rattle.levels.specs.Levelled.{LevelledFor}
use Rattle.levels.proofs.search.take_set.Given as goal

abbrev pub invariant-loop-bit : goal.invariant-loop-bit
invariant-loop-bit l = LevelledFor l.task l.initial.numbers l.numbers l.initial.scratch l.scratch
