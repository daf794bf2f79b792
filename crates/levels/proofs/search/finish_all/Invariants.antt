-- `levels::search::finish_all` meets its contract: term by term.
use Rattle.levels.specs.Levelled.{LevelledFor}
use Rattle.levels.proofs.search.finish_all.Given as goal

abbrev pub invariant-loop-t : goal.invariant-loop-t
invariant-loop-t l = LevelledFor l.task l.initial.numbers l.numbers l.initial.scratch l.scratch
