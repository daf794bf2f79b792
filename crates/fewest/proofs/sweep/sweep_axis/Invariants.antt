-- `fewest::sweep::sweep_axis` meets its contract: each turn sees the moves of one triple.
use mathlib.Core.Path.{◌≡◌}
use Rattle.records.specs.Sites.{site_of}
use Rattle.records.specs.declared.Axis.{Axis as CodeAxis}
use Rattle.records.specs.Rules.{axis_of}
use Rattle.fewest.specs.Pairs.{pairs}
use Rattle.fewest.specs.Frame.{frame}
use Rattle.fewest.specs.Offer.{Lowers}
use Rattle.fewest.specs.Sweep.{sum}
use Rattle.fewest.specs.Work.{goal_of, work_of, parts_of, QuietBy}
use Rattle.fewest.proofs.Loops.{Seen}
use Rattle.fewest.proofs.sweep.sweep_axis.Given as goal

abbrev pub invariant-loop-k : goal.invariant-loop-k
invariant-loop-k l =
    let F = frame (site_of l.site.bytes.now l.site.triples) l.ahead.links.now.up l.ahead.links.now.role (goal_of l.ahead.goal) in
    (a : CodeAxis) → l.parts ≡ parts_of a → Seen sum (Lowers F (work_of (axis_of a) l.label) l.r) (QuietBy F (axis_of a) l.label l.r) l.k (pairs l.initial.numbers) (pairs l.numbers) l.was l.changed
