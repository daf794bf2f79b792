-- `asked::chase::go` meets its contract: every triple before the next of the thread was seen, if it starts at the term.
-- The measure is what is left of the triples.
use Prim.Native.Nat.{◌-◌, ◌<◌}
use mathlib.Core.Path.{◌≡◌}
use Rattle.records.specs.Sites.{site_of}
use Rattle.fewest.specs.Pairs.{pairs}
use Rattle.fewest.specs.Threads.{start_by, Along}
use Rattle.asked.specs.Serve.{Kept}
use Rattle.asked.specs.Seek.{marks_in}
use Rattle.asked.proofs.Going.{Seen}
use Rattle.asked.proofs.chase.go.Given as goal

abbrev pub invariant-loop-k : goal.invariant-loop-k
invariant-loop-k g l =
    let site = l.task.site in
    let links = l.task.ahead.links.now in
    Along l.fn.axis l.t l.walk.by l.walk.term ×
    Seen site.bytes.now site.triples l.fn.axis (g.L.Labelled.label l.step) links.up links.role (pairs l.numbers) l.r l.t l.walk.at (marks_in l.initial.asked l.initial.ends) (marks_in l.asked l.ends) ×
    Kept l.initial.asked l.asked × (l.walk.at < site.triples → start_by l.fn.axis (site_of site.bytes.now site.triples) l.walk.at ≡ l.t)

abbrev pub decreases-loop-k : goal.decreases-loop-k
decreases-loop-k g l = l.task.site.triples - l.walk.at
