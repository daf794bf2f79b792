use Rattle.fewest.specs.Offer.{rest}
use Rattle.fewest.proofs.Sweeps.{settles_then}
use Rattle.fewest.proofs.sweep.settle.Goals as goal

pub loop-init : goal.loop-init
loop-init c = rest

pub loop-preserved : goal.loop-preserved
loop-preserved c = settles_then c.loop.invariant c.sweep.ensures.reached
