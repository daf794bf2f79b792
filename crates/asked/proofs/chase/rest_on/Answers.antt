-- `asked::chase::rest_on` meets its contract: what follows is read off the links.
use Rattle.asked.proofs.chase.rest_on.Goals as goal

pub returns : goal.returns
returns c = let (look, kept) = c.pursue.ensures in (look _ _ c.follow-next.ensures, kept)
