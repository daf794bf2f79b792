-- `levels::search::take_level` meets its contract: term by term of the list.
use Rattle.levels.specs.Levelled.{LevelledFor}
use Rattle.levels.proofs.search.take_level.Given as goal

abbrev pub invariant-loop-i : goal.invariant-loop-i
invariant-loop-i l = LevelledFor l.task l.initial.numbers l.numbers l.initial.scratch l.scratch
