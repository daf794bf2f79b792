-- `levels::search::stay` meets its contract: a term at an end of a triple is a vocabulary term.
use Rattle.fewest.specs.Offer.{stay}
use Rattle.fewest.specs.Work.{at_word}
use Rattle.levels.proofs.search.stay.Goals as goal

pub returns-then-stands : goal.returns-then-stands
returns-then-stands c = λ any. (c.rest.ensures _ (at_word (c.stands.ensures c.if-stands.true)) any).reached

pub returns : goal.returns
returns c = λ any. stay
