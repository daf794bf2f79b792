-- `levels::search::search_all` meets its contract: body by body.
use Rattle.levels.specs.Levelled.{LevelledFor}
use Rattle.levels.proofs.search.search_all.Given as goal

abbrev pub invariant-loop-b : goal.invariant-loop-b
invariant-loop-b l = LevelledFor l.task l.initial.numbers l.numbers l.initial.scratch l.scratch
