use Rattle.levels.proofs.Levelling.{levelled_then}
use Rattle.levels.proofs.search.run_levels.Goals as goal

pub loop-preserved : goal.loop-preserved
loop-preserved c = levelled_then (levelled_then c.loop.invariant c.rise_level.ensures) c.take_level-level.ensures
