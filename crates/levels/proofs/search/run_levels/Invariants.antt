-- `levels::search::run_levels` meets its contract: level by level.
use Rattle.levels.specs.Levelled.{LevelledFor}
use Rattle.levels.proofs.search.run_levels.Given as goal

abbrev pub invariant-loop : goal.invariant-loop
invariant-loop l = LevelledFor l.task l.initial.numbers l.numbers l.initial.scratch l.scratch
