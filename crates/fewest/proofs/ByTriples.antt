-- A record's row is lowered along the moves of a step whose axis takes triples, triple by triple.
-- Such a move has the number of its triple; so every triple seen, every move was seen.
use Prim.Native.Nat.{ℕ, ◌<◌, ◌≤◌}
use mathlib.Core.Path.{refl}
use mathlib.Core.Bool.{Bool}
use mathlib.Core.List.{List}
use native.Mathlib.Omega.{arith}
use lib.ListN.{length}
use borrow.Author.Tests.{eq-eqb, lt-ltb}
use Rattle.meaning.specs.Site.{Site}
use Rattle.meaning.specs.Move.{Direction, Axis, self, ahead, inverse, Move, going, coming, any, Allows}
use Rattle.meaning.specs.Move as move
use Rattle.records.specs.declared.Label.{Label}
use Rattle.records.specs.declared.Label.TheVariants.{Any, Term, Test}
use Rattle.records.specs.declared.Axis.{Axis as CodeAxis}
use Rattle.records.specs.declared.Axis.TheVariants as code
use Rattle.records.specs.Rules.{axis_of}
use Rattle.fewest.specs.Frame.{Frame}
use Rattle.fewest.specs.Offer.{by_step, by_test, Lowers, Quiet}
use Rattle.fewest.specs.Sweep.{sum}
use Rattle.fewest.specs.Work.{work_of, QuietBy, WorkSwept}
use Rattle.fewest.proofs.Sweeps.{swept_weaken}
use Rattle.fewest.proofs.Loops.{Seen}

-- an axis that takes triples
pub data Takes : Axis → Type 0 where
  forwards : {d : Direction} → Takes (ahead d)
  backwards : {d : Direction} → Takes (inverse d)

-- each of the code's does
pub axis_takes : (a : CodeAxis) → Takes (axis_of a)
axis_takes code.Next = forwards
axis_takes code.NextInverse = backwards
axis_takes code.Edge = forwards
axis_takes code.EdgeInverse = backwards
axis_takes code.Node = forwards
axis_takes code.NodeInverse = backwards

-- A move by such an axis has a triple's number; without its label it is one too, and the label allows its middle.
pub by_triple : {s : Site} {a : Axis} {l : move.Label} {k t m u : ℕ} → Takes a → Move s a l k t m u →
    (k < length s) × Move s a any k t m u × Allows l m
by_triple forwards (going p i) = (p.below, going p tt, i)
by_triple backwards (coming p i) = (p.below, coming p tt, i)

-- Each triple seen, every offer was seen.
pub moves_quiet : {F : Frame} {a : Axis} {r : ℕ} {X : List ℕ} → Takes a → (l : Label) →
    ((k : ℕ) → k < length F.site → QuietBy F a l r k X) → Quiet F (work_of a l) r X
moves_quiet takes Any seen t v b (by_step {k = k} {m = m} {u = u} {v = w} x c) =
    let (below, y, i) = by_triple takes x in seen k below t m u w y refl c
moves_quiet takes (Term n) seen t v b (by_step {k = k} {m = m} {u = u} {v = w} x c) =
    let (below, y, i) = by_triple takes x in seen k below t m u w y (eq-eqb m n i) c
moves_quiet takes Test seen t v b (by_test {k = k} {m = m} {u = u} {v = w} x h c) =
    let (below, y, i) = by_triple takes x in seen k below t m u w y (lt-ltb _ _ h) c

-- Each triple seen, the row was swept.
pub moves_swept : {F : Frame} {a : Axis} (l : Label) {r k : ℕ} {T U : List ℕ} {was now : Bool} → Takes a → length F.site ≤ k →
    Seen sum (Lowers F (work_of a l) r) (QuietBy F a l r) k T U was now → WorkSwept F (work_of a l) r T U was now
moves_swept l takes past p = swept_weaken (λ seen. moves_quiet takes l (λ j h. seen j (omega arith))) p
