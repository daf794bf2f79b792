-- `fewest::links::Links::stand` meets its contract.
use Rattle.fewest.proofs.Seen.{stand_seen}
use Rattle.fewest.proofs.links.Links.stand.Goals as goal

pub returns : goal.returns
returns c = rw (← c.self.view_is) (stand_seen c.self.inside.of c.args.k c.args.above c.args.stands _)
