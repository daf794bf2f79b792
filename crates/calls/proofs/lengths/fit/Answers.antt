-- `calls::lengths::fit` meets its contract: each length is compared.
use Rattle.meaning.specs.Limits.{terms, records}
use Rattle.calls.proofs.Fitting.{three_tell}
use Rattle.calls.proofs.lengths.fit.Goals as goal

pub returns : goal.returns
unfolding terms records
returns c = rw c.eq.ensures (three_tell _ _ _ _ _ _)
