-- `levels::search::note_all` meets its contract: term by term.
use Rattle.fewest.specs.Kept.{Kept}
use Rattle.levels.proofs.search.note_all.Given as goal

abbrev pub invariant-loop-t : goal.invariant-loop-t
invariant-loop-t l = Kept l.initial.scratch l.scratch
