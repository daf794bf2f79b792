-- Marking goes on where marking stopped, and marks only grow: what asks for nothing unmarked stays so.
-- Nothing here knows the rule but by its lists.
use Prim.Native.Nat.{ℕ, ◌-◌, ◌<◌}
use mathlib.Core.Path.{◌≡◌, refl, ◌∙◌}
use mathlib.Core.Logic.{⊎_elim}
use mathlib.Core.List.{List}
use native.Mathlib.Omega.{arith}
use native.Mathlib.Decide.{dec_lt}
use lib.ListN.{length, get_or, set, length-set}
use lib.Seq.{set_out}
use Rattle.meaning.specs.Expression.{Rec}
use Rattle.records.specs.declared.Label.{Label}
use Rattle.fewest.specs.Frame.{Frame}
use Rattle.fewest.specs.Offer.{place, view, Work, copying}
use Rattle.fewest.proofs.Places.{stored}
use Rattle.fewest.proofs.Bound.{total_set}
use Rattle.asked.specs.Mark.{Marks, Marked, blank, Leads, Done, done, Asking, asking, Marking, stay, mark, arrive, CalmAt, MarksOn, rest, work}
use Rattle.asked.specs.Seek.{Bits, AllNext, CalmBy}

-- a mark where none was takes one from the blank entries
pub blank_mark : (l : List ℕ) (i : ℕ) → i < length l → get_or l i 0 ≡ 0 → blank (set l i 1) < blank l
unfolding blank
blank_mark l i h e = let k = total_set (λ x. 1 - x) l i 1 h in omega arith

-- a mark stays where others are made
pub mark_stays : (l : List ℕ) (i k : ℕ) → get_or l k 0 ≡ 1 → get_or (set l i 1) k 0 ≡ 1
mark_stays l i k e = elim (dec_lt i (length l)) [
  | yes h ↦ ⊎_elim (λ s. s.1) (λ s. s ∙ e) (stored l i 1 h k)
  | no h ↦ rw (set_out l i 1 (omega arith)) e
]

-- a table of bits stays one
pub bits_mark : (l : List ℕ) (i : ℕ) → Bits l → Bits (set l i 1)
unfolding Bits
bits_mark l i h k = elim (dec_lt i (length l)) [
  | yes m ↦ ⊎_elim (λ s. omega arith) (λ s. omega (arith, h k)) (stored l i 1 m k)
  | no m ↦ rw (set_out l i 1 (omega arith)) (h k)
]

-- a copy leads nowhere
pub never_leads : {F : Frame} {T : List ℕ} {r t u a : ℕ} → Leads F T r t u (copying a) → ⊥
never_leads d = elim d [ ]

-- more is marked, and as many ends are lent
pub record Grows (M N : Marks) : Type 0 where
  pub marked : (q t : ℕ) → Marked M q t → Marked N q t
  pub arrived : (u : ℕ) → get_or M.ends u 0 ≡ 1 → get_or N.ends u 0 ≡ 1
  pub long : length N.ends ≡ length M.ends

-- What is marked next stays so.
pub next_grows : {F : Frame} {M N : Marks} {r u : ℕ} → Grows M N → AllNext F r u M → AllNext F r u N
next_grows {u = u} grows all = record {
  next = λ b n. grows.marked b u (all.next b n);
  home = λ h o. grows.arrived u (all.home (rw (← grows.long) h) o);
}

module _ {F : Frame} {T : List ℕ} {M N : Marks} {r : ℕ} (grows : Grows M N) where
  -- What is done by marks is done by more marks: one term may have several things to mark.
  pub done_grows : {u : ℕ} {w : Work} → Done F T M r u w → Done F T N r u w
  done_grows (done m b l) = done (grows.marked r _ m) b l

  pub asking_grows : {b v : ℕ} {w : Work} → Asking F T M r b v w → Asking F T N r b v w
  asking_grows (asking m h l) = asking (grows.marked r _ m) h l

  -- What asks for nothing unmarked stays so.
  pub calm_by_grows : {l : Label} {i u : ℕ} → CalmBy F T l r i u M → CalmBy F T l r i u N
  calm_by_grows {i = i} calm = record { test = λ e. grows.marked (r - 1) i (calm.test e); next = λ e. next_grows grows (calm.next e) }

  pub calm_at_grows : {w : Work} {t : ℕ} → CalmAt F T w r t M → CalmAt F T w r t N
  calm_at_grows calm = record {
    asks = λ b v h a. grows.marked b v (calm.asks b v h a);
    arrives = λ u h d o. grows.arrived u (calm.arrives u (rw (← grows.long) h) d o);
  }

module _ {F : Frame} {T : List ℕ} {w : Work} {r : ℕ} where
  pub marking_then : {M N P : Marks} → Marking F T w r M N → Marking F T w r N P → Marking F T w r M P
  marking_then p stay = p
  marking_then p (mark q h a e) = mark (marking_then p q) h a e
  marking_then p (arrive q h d o e) = arrive (marking_then p q) h d o e

  -- The tables keep their lengths.
  pub marking_long : {M N : Marks} → Marking F T w r M N → (length N.asked ≡ length M.asked) × (length N.ends ≡ length M.ends)
  marking_long stay = (refl, refl)
  marking_long (mark {N} q h a e) = let (long, ends) = marking_long q in (length-set N.asked _ 1 ∙ long, ends)
  marking_long (arrive {N} q h d o e) = let (long, ends) = marking_long q in (long, length-set N.ends _ 1 ∙ ends)

  -- The ends stay a table of bits.
  pub marking_bits : {M N : Marks} → Marking F T w r M N → Bits M.ends → Bits N.ends
  marking_bits stay e = e
  marking_bits (mark q h a z) e = marking_bits q e
  marking_bits (arrive {N} q h d o z) e = bits_mark N.ends _ (marking_bits q e)

  -- Marks only grow.
  pub marking_grows : {M N : Marks} → Marking F T w r M N → Grows M N
  unfolding view
  marking_grows stay = record { marked = λ q t m. m; arrived = λ u e. e; long = refl }
  marking_grows (mark {N} c h a e) =
      let g = marking_grows c in
      record { marked = λ q t m. mark_stays N.asked _ (place q t) (g.marked q t m); arrived = g.arrived; long = g.long }
  marking_grows (arrive {N} {u} c h d o e) =
      let g = marking_grows c in
      record { marked = g.marked; arrived = λ v m. mark_stays N.ends u v (g.arrived v m); long = length-set N.ends u 1 ∙ g.long }

module _ {F : Frame} {T : List ℕ} {rs : List Rec} {first : List ℕ} where
  pub marks_on_then : {M N P : Marks} → MarksOn F T rs first M N → MarksOn F T rs first N P → MarksOn F T rs first M P
  marks_on_then p rest = p
  marks_on_then p (work q h i l) = work (marks_on_then p q) h i l

  -- The tables keep their lengths.
  pub marks_on_long : {M N : Marks} → MarksOn F T rs first M N → (length N.asked ≡ length M.asked) × (length N.ends ≡ length M.ends)
  marks_on_long rest = (refl, refl)
  marks_on_long (work q h i l) =
      let (long, ends) = marking_long l in
      let (before, lent) = marks_on_long q in
      (long ∙ before, ends ∙ lent)

  -- The ends stay a table of bits.
  pub marks_on_bits : {M N : Marks} → MarksOn F T rs first M N → Bits M.ends → Bits N.ends
  marks_on_bits rest e = e
  marks_on_bits (work q h i l) e = marking_bits l (marks_on_bits q e)

  -- Marks only grow.
  pub marks_on_grows : {M N : Marks} → MarksOn F T rs first M N → Grows M N
  marks_on_grows rest = record { marked = λ q t m. m; arrived = λ u e. e; long = refl }
  marks_on_grows (work c h i l) =
      let g = marks_on_grows c in
      let k = marking_grows l in
      record { marked = λ q t m. k.marked q t (g.marked q t m); arrived = λ u e. k.arrived u (g.arrived u e); long = k.long ∙ g.long }
