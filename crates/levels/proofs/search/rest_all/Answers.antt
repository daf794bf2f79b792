use Rattle.fewest.specs.Offer.{stay}
use Rattle.fewest.proofs.Sweeps.{lowers_then}
use Rattle.levels.proofs.search.rest_all.Goals as goal

pub loop-t-init : goal.loop-t-init
loop-t-init c = stay

pub loop-t-preserved : goal.loop-t-preserved
loop-t-preserved c = lowers_then c.loop-t.invariant c.rest_at.ensures
