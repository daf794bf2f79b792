-- `path::choose::by_thread` meets its contract. The loop's invariant: `k` is of the thread, and the triples before it offer
-- nothing.
use Prim.Native.Nat.{ℕ, ◌-◌, ◌<◌}
use mathlib.Core.Path.{◌≡◌}
use Rattle.records.specs.Sites.{site_of}
use Rattle.records.specs.Rules.{axis_of}
use Rattle.fewest.specs.Pairs.{pairs}
use Rattle.fewest.specs.Threads.{start_by, Along}
use Rattle.fewest.specs.Tasks.{framed}
use Rattle.path.proofs.Stepping.{Idle}
use Rattle.path.proofs.choose.by_thread.Given as goal

abbrev pub invariant-loop-k : goal.invariant-loop-k
invariant-loop-k l =
    Along l.fn.axis l.t l.walk.by l.walk.term ×
    (l.walk.at < l.site.triples → start_by l.fn.axis (site_of l.site.bytes.now l.site.triples) l.walk.at ≡ l.t) ×
    ((j : ℕ) → j < l.walk.at → Idle (framed l.task) (pairs l.numbers) (axis_of l.fn.axis) l.label l.r l.t l.d j)

abbrev pub decreases-loop-k : goal.decreases-loop-k
decreases-loop-k l = l.site.triples - l.walk.at
