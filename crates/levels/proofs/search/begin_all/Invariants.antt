-- `levels::search::begin_all` meets its contract: what may pass empty, then step by step of the set.
use Rattle.levels.specs.Levelled.{LevelledFor}
use Rattle.levels.proofs.search.begin_all.Given as goal

abbrev pub invariant-loop-bit : goal.invariant-loop-bit
invariant-loop-bit l = LevelledFor l.task l.initial.numbers l.numbers l.initial.scratch l.scratch
