-- `path::next_step` meets its contract: the smallest step of the open records is the smallest candidate, since what is open is
-- exactly what can be entered.
use Rattle.meaning.specs.Limits.{records}
use Rattle.path.proofs.Opening.{all_shut}
use Rattle.path.proofs.Choosing.{open_picked}
use Rattle.path.proofs.next_step.Goals as goal

pub returns : goal.returns
unfolding records
returns c =
    let pre = c.requires in
    open_picked (c.enter.ensures _ _ _ (c.word-here.ensures _ pre.0 pre.1) all_shut)
    c.choose.ensures
