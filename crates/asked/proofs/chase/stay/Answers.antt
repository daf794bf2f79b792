-- `asked::chase::stay` meets its contract: the threads tell whether the term is in the vocabulary.
use Rattle.asked.proofs.Serving.{kept_none}
use Rattle.asked.proofs.ByMoves.{word_looked, word_passed}
use Rattle.asked.proofs.chase.stay.Goals as goal

pub returns-then-word : goal.returns-then-word
returns-then-word c =
    let (_, _, small, _, marked) = c.requires in
    let (look, kept) = c.rest_on.ensures in
    (word_looked small marked c.word.ensures c.if-word.true look, kept)

pub returns-else-word : goal.returns-else-word
returns-else-word c =
    let (_, _, small, _, marked) = c.requires in
    (word_passed small marked c.word.ensures c.if-word.false, kept_none _)
