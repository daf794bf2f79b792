-- `levels::search::rest_all` meets its contract: term by term.
use Rattle.meaning.specs.Move.{self}
use Rattle.fewest.specs.Pairs.{pairs}
use Rattle.fewest.specs.Offer.{Lowers}
use Rattle.fewest.specs.Work.{work_of}
use Rattle.fewest.specs.Tasks.{framed}
use Rattle.levels.proofs.search.rest_all.Given as goal

abbrev pub invariant-loop-t : goal.invariant-loop-t
invariant-loop-t l = Lowers (framed l.task) (work_of self l.label) l.r (pairs l.initial.numbers) (pairs l.numbers)
