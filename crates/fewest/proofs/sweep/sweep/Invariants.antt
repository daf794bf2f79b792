-- `fewest::sweep::sweep` meets its contract: each turn sees one record of the rule.
use mathlib.Core.Bool.{false}
use Rattle.records.specs.Sites.{site_of}
use Rattle.records.specs.Rules.{records_of}
use Rattle.fewest.specs.Pairs.{pairs}
use Rattle.fewest.specs.Frame.{frame}
use Rattle.fewest.specs.Offer.{Settles}
use Rattle.fewest.specs.Sweep.{sum}
use Rattle.fewest.specs.Work.{goal_of}
use Rattle.fewest.proofs.Loops.{Seen}
use Rattle.fewest.proofs.ByRecords.{RecordQuiet}
use Rattle.fewest.proofs.sweep.sweep.Given as goal

abbrev pub invariant-loop-r : goal.invariant-loop-r
invariant-loop-r l =
    let F = frame (site_of l.task.site.bytes.now l.task.site.triples) l.task.ahead.links.now.up l.task.ahead.links.now.role (goal_of l.task.ahead.goal) in
    Seen sum (Settles F (records_of l.task.rule.bytes.now) l.task.ahead.links.now.first) (RecordQuiet F (records_of l.task.rule.bytes.now) l.task.ahead.links.now.first) l.r (pairs l.initial.numbers) (pairs l.numbers) false l.changed
