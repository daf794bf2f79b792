-- `fewest::sweep::sweep_thread` meets its contract: each turn sees the moves of one triple of the thread, and what stands between it
-- and the next offers nothing lower. The measure is what is left of the triples.
use Prim.Native.Nat.{ℕ, ◌<◌, ◌-◌}
use mathlib.Core.Path.{◌≡◌}
use Rattle.meaning.specs.Site.{Triple}
use Rattle.records.specs.Sites.{site_of}
use Rattle.records.specs.Rules.{axis_of}
use Rattle.fewest.specs.Pairs.{pairs}
use Rattle.fewest.specs.Frame.{frame}
use Rattle.fewest.specs.Offer.{Lowers}
use Rattle.fewest.specs.Sweep.{sum}
use Rattle.fewest.specs.Threads.{Threads, start_by, StartsAt, Along}
use Rattle.fewest.specs.Work.{goal_of, work_of, QuietBy, Others}
use Rattle.fewest.proofs.Loops.{Seen}
use Rattle.fewest.proofs.sweep.sweep_thread.Given as goal

abbrev pub invariant-loop-k : goal.invariant-loop-k
invariant-loop-k l =
    let F = frame (site_of l.site.bytes.now l.site.triples) l.ahead.links.now.up l.ahead.links.now.role (goal_of l.ahead.goal) in
    let w = work_of (axis_of l.fn.axis) l.label in
    Along l.fn.by l.term l.walk.by l.walk.term × (Lowers F w l.r (pairs l.initial.numbers) (pairs l.numbers)) ×
    (Threads l.site.bytes.now l.site.triples l.scratch → (place : Triple → ℕ) → StartsAt place l.fn.by →
    Others l.site.bytes.now l.site.triples place l.term l.ahead.links.now.up l.ahead.links.now.role (goal_of l.ahead.goal) (axis_of l.fn.axis) l.label l.r (pairs l.initial.numbers) →
    (l.walk.at < l.site.triples → start_by l.fn.by (site_of l.site.bytes.now l.site.triples) l.walk.at ≡ l.term) ×
    Seen sum (Lowers F w l.r) (QuietBy F (axis_of l.fn.axis) l.label l.r) l.walk.at (pairs l.initial.numbers) (pairs l.numbers) l.was l.changed)

abbrev pub decreases-loop-k : goal.decreases-loop-k
decreases-loop-k l = l.site.triples - l.walk.at
