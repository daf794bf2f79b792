-- `fewest::sweep::sweep_rests` meets its contract: each turn sees one term, looked at where it is a word.
use Prim.Native.Nat.{ℕ}
use mathlib.Core.Path.{◌≡◌}
use mathlib.Core.List.{List}
use Rattle.records.specs.declared.Label.TheVariants.{Any}
use Rattle.records.specs.Sites.{site_of}
use Rattle.fewest.specs.Pairs.{pairs}
use Rattle.fewest.specs.Frame.{frame}
use Rattle.fewest.specs.Offer.{Lowers}
use Rattle.fewest.specs.Sweep.{sum}
use Rattle.fewest.specs.Threads.{Threads}
use Rattle.fewest.specs.Work.{goal_of, staying}
use Rattle.fewest.proofs.Loops.{Seen}
use Rattle.fewest.proofs.Resting.{AtWord}
use Rattle.fewest.proofs.sweep.sweep_rests.Given as goal

abbrev pub invariant-loop-t : goal.invariant-loop-t
invariant-loop-t l =
    (s : List ℕ) → Threads s l.triples l.scratch → (l.cost ≡ 0 → l.label ≡ Any) →
    let F = frame (site_of s l.triples) l.ahead.links.now.up l.ahead.links.now.role (goal_of l.ahead.goal) in
    Seen sum (Lowers F (staying l.cost l.label) l.r) (AtWord F (staying l.cost l.label) l.r) l.t (pairs l.initial.numbers) (pairs l.numbers) l.was l.changed
