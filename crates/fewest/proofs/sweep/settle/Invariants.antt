-- `fewest::sweep::settle` meets its contract: each turn is a sweep that changed the table, and the last one changed nothing.
-- The measure is the sum of the table, which falls with each change.
use Rattle.records.specs.Sites.{site_of}
use Rattle.records.specs.Rules.{records_of}
use Rattle.fewest.specs.Pairs.{pairs}
use Rattle.fewest.specs.Frame.{frame}
use Rattle.fewest.specs.Offer.{Settles}
use Rattle.fewest.specs.Sweep.{sum}
use Rattle.fewest.specs.Work.{goal_of}
use Rattle.fewest.proofs.sweep.settle.Given as goal

abbrev pub invariant-loop : goal.invariant-loop
invariant-loop l =
    Settles (frame (site_of l.task.site.bytes.now l.task.site.triples) l.task.ahead.links.now.up l.task.ahead.links.now.role (goal_of l.task.ahead.goal)) (records_of l.task.rule.bytes.now) l.task.ahead.links.now.first (pairs l.initial.numbers) (pairs l.numbers)

abbrev pub decreases-loop : goal.decreases-loop
decreases-loop l = sum (pairs l.numbers)
