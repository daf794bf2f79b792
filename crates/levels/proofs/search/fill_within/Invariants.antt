-- `levels::search::fill_within` meets its contract: record by record, as the hints say.
use Rattle.levels.specs.Levelled.{HintedFor}
use Rattle.levels.proofs.search.fill_within.Given as goal

abbrev pub invariant-loop-place : goal.invariant-loop-place
invariant-loop-place l = HintedFor l.task l.initial.numbers l.numbers
