-- `fewest::links::link` meets its contract: the loop keeps `LinkingOf`.
use Rattle.records.specs.Rules.{records_of}
use Rattle.fewest.proofs.Linking.{LinkingOf}
use Rattle.fewest.proofs.links.link.Given as goal

abbrev pub invariant-loop-r : goal.invariant-loop-r
invariant-loop-r l = LinkingOf (records_of l.rule) l.r l.links
