-- `fewest::look::allows` meets its contract, label by label.
use Rattle.meaning.specs.Limits.{none}
use Rattle.fewest.proofs.look.allows.Goals as goal

pub returns-in-Test : goal.returns-in-Test
unfolding none
returns-in-Test c = rw (c.in-Test.is, c.number.ensures.0)
