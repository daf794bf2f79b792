-- `path::choose::may_stay` meets its contract, label by label.
use Rattle.fewest.specs.Tells.{holds}
use Rattle.path.proofs.choose.may_stay.Goals as goal

pub returns-in-Term : goal.returns-in-Term
returns-in-Term c = rw c.in-Term.is (λ s t tell. holds tt)
