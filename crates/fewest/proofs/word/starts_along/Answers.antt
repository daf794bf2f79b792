-- `fewest::word::starts_along` meets its contract: the first triple of the term's thread tells.
use Rattle.fewest.proofs.Words.{start_tells}
use Rattle.fewest.proofs.word.starts_along.Goals as goal

pub returns : goal.returns
returns c = λ s threads h. start_tells c.args.axis s (c.first_from.ensures s _ threads h)
