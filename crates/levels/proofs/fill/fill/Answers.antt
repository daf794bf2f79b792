-- `levels::fill::fill` meets its contract: what `levels` and then `settle` reach from the table that `clear` leaves.
use Rattle.levels.proofs.Hints.{hinted_settled}
use Rattle.levels.proofs.fill.fill.Goals as goal

pub returns : goal.returns
returns c = (
  rw c.clear.ensures at (hinted_settled c.levels.ensures.0 c.settle.ensures),
  c.levels.ensures.1,
)
