-- `asked::mark::take_up` meets its contract: the bit of what waits is taken off where it stands, and the mark stays.
use Rattle.meaning.specs.Limits.{terms, triples}
use Rattle.fewest.proofs.Tells.{told}
use Rattle.asked.proofs.Serving.{taken_up}
use Rattle.asked.proofs.mark.take_up.Goals as goal

pub returns : goal.returns
unfolding terms triples
returns c =
    taken_up c.args.asked.now c.requires.0 c.requires.1 (rw (← c.word-waiting.ensures, ← c.only.ensures) c.put_word.ensures)
    (told c.waits_at.ensures c.if-not-waits_at.false)
