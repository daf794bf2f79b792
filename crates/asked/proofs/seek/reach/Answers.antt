-- `asked::seek::reach` meets its contract: the end, and then the records that are asked next.
use Rattle.asked.proofs.Seeking.{reached}
use Rattle.asked.proofs.seek.reach.Goals as goal

pub returns : goal.returns
returns c =
    let (bits, small) = c.requires in
    let marked = c.mark_on.ensures in
    (λ up role r onward. reached onward small marked bits c.arrive.ensures, marked.kept)
