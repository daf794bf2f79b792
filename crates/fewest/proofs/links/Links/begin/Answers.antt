-- `fewest::links::Links::begin` meets its contract.
use Rattle.fewest.proofs.Seen.{begin_seen}
use Rattle.fewest.proofs.links.Links.begin.Goals as goal

pub returns : goal.returns
returns c = rw (← c.self.view_is) (begin_seen c.self.inside.of c.args.r c.args.operand _)
