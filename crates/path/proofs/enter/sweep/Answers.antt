use Rattle.path.proofs.Sweeping.{sweep_more, sweep_all}
use Rattle.path.proofs.enter.sweep.Goals as goal

pub loop-r-preserved : goal.loop-r-preserved
loop-r-preserved c = sweep_more c.loop-r.r c.loop-r.invariant c.lead-changed.ensures

pub returns : goal.returns
returns c =
    sweep_all c.loop-r-test.false c.requires.0.2.counted
    c.begin-changed.ensures c.loop-r.invariant
