-- `path::enter::inward` meets its contract, kind by kind.
use Rattle.path.proofs.Leading.{lead_sequence, lead_choice, lead_star, lead_past}
use Rattle.path.proofs.enter.inward.Goals as goal

pub returns-then-word : goal.returns-then-word
returns-then-word c =
    rw c.in-Star.is
    (lead_past c.if-word.true c.mark-changed-in-Star.ensures c.follow.ensures)

pub returns-in-Sequence : goal.returns-in-Sequence
returns-in-Sequence c = rw c.in-Sequence.is (lead_sequence c.mark.ensures)

pub returns-in-Choice : goal.returns-in-Choice
returns-in-Choice c =
    rw c.in-Choice.is
    (lead_choice c.mark-changed.ensures c.mark-in-Choice.ensures)

pub returns-else-word : goal.returns-else-word
returns-else-word c = rw c.in-Star.is (lead_star c.if-word.false c.mark-changed-in-Star.ensures)
