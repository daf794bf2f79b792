-- `asked::mark::mark` meets its contract: nothing is new, or what is new was marked.
use Rattle.meaning.specs.Limits.{terms, triples}
use Rattle.asked.proofs.Serving.{set_marked, set_there}
use Rattle.asked.proofs.mark.mark.Goals as goal

pub returns-then-all-old : goal.returns-then-all-old
unfolding terms triples
returns-then-all-old c = set_there c.requires (rw (← c.word-old.ensures) c.if-all-old.true)

pub returns : goal.returns
unfolding terms triples
returns c = set_marked c.requires (rw (← c.word-old.ensures) c.renew.ensures)
