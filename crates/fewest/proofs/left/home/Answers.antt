-- `fewest::left::home` meets its contract, case by case of the goal.
use borrow.Author.Tests.{ne_eqb}
use Rattle.meaning.specs.Limits.{none}
use Rattle.fewest.proofs.left.home.Goals as goal

pub returns-else-u-end : goal.returns-else-u-end
unfolding none
returns-else-u-end c = rw (c.in-End.is, ne_eqb _ _ c.if-u-end.false)
