-- `asked::mark::waits_at` meets its contract: what both words of the term have, and the set of the record alone.
use Rattle.meaning.specs.Limits.{terms, triples}
use Rattle.asked.proofs.Waiting.{waits_told}
use Rattle.asked.proofs.mark.waits_at.Goals as goal

pub returns : goal.returns
unfolding terms triples
returns c = rw (c.word-marked.ensures, c.word-waiting.ensures, c.only.ensures) (waits_told c.args.asked.now c.requires.0 c.requires.1)
