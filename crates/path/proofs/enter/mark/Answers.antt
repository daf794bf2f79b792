-- `path::enter::mark` meets its contract: the record was open, or it is now.
use Rattle.path.proofs.Opening.{mark_now}
use Rattle.path.proofs.enter.mark.Goals as goal

pub returns-then-shut-b : goal.returns-then-shut-b
returns-then-shut-b c = mark_now _ c.requires c.if-shut-b.true
