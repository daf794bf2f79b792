-- `fewest::word::word` meets its contract: a word is a subject or an object.
use Rattle.fewest.proofs.Words.{word_subject, word_object}
use Rattle.fewest.proofs.word.word.Goals as goal

pub returns-then-starts_along : goal.returns-then-starts_along
returns-then-starts_along c = λ s threads h. word_subject (c.starts_along.ensures s threads h) c.if-starts_along.true

pub returns-else-starts_along : goal.returns-else-starts_along
returns-else-starts_along c = λ s threads h.
    word_object (c.starts_along.ensures s threads h) c.if-starts_along.false (c.starts_along-else-starts_along.ensures s threads h)
