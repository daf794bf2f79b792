-- `asked::mark::renew` meets its contract: the words of the marks and of what waits, one after the other.
use Rattle.meaning.specs.Limits.{terms, triples}
use Rattle.asked.proofs.Serving.{renewed}
use Rattle.asked.proofs.mark.renew.Goals as goal

pub returns : goal.returns
unfolding terms triples
returns c = renewed c.requires c.put_word.ensures (rw (← c.word-waiting.ensures) c.put_word-2.ensures)
