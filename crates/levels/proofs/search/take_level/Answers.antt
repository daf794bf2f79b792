use Rattle.levels.proofs.Levelling.{levelled_then}
use Rattle.levels.proofs.search.take_level.Goals as goal

pub loop-i-preserved : goal.loop-i-preserved
loop-i-preserved c = levelled_then c.loop-i.invariant c.take_term.ensures
