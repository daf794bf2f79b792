-- `fewest::sweep::only_end` meets its contract: the record stands as the whole rule, and the goal is that term.
use Rattle.std.proofs.Common.{sym}
use Rattle.meaning.specs.Limits.{terms}
use Rattle.fewest.proofs.sweep.only_end.Goals as goal

pub returns-in-End-Whole : goal.returns-in-End-Whole
unfolding terms
returns-in-End-Whole c = (c.if-term-lt-TERMS.true, λ h. (sym c.in-End-Whole.ensures, rw c.in-End-Whole.is-0))
