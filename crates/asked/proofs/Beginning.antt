-- To begin with: both tables are cleared, and the whole rule's question at the start is marked.
-- What is then chased from there, until none waits, is what the whole rule asks.
use Prim.Native.Nat.{ℕ, ◌+◌, ◌*◌, ◌-◌, ◌/◌, ◌%◌, ◌^◌, ◌<◌, ◌≤◌}
use mathlib.Core.Path.{◌≡◌, sym, ap, ◌∙◌}
use mathlib.Core.Logic.{inl, inr}
use mathlib.Core.List.{List}
use native.Mathlib.Omega.{arith}
use native.Mathlib.Decide.{ℕ_discrete}
use lib.ListN.{length, get_or, set, replicate, length-replicate, length-set}
use Rattle.meaning.specs.Limits.{terms, triples, records}
use Rattle.meaning.specs.Expression.{Rec}
use Rattle.meaning.specs.Fewest.{Goal}
use Rattle.records.specs.Sites.{site_of}
use Rattle.records.specs.Rules.{records_of}
use Rattle.fewest.specs.Frame.{Frame, frame}
use Rattle.fewest.specs.Kept as fewest
use Rattle.fewest.specs.Offer.{place, view}
use Rattle.fewest.proofs.Keeping.{kept_bytes}
use Rattle.fewest.proofs.Places.{place_below, view_set_same, view_set_other}
use Rattle.asked.specs.Words.{size, bit, marks_at}
use Rattle.asked.specs.Mark.{marks, begun}
use Rattle.asked.specs.Serve.{markeds, NoneWaits, Kept, SetMarked}
use Rattle.asked.specs.Seek.{Whole, Bits, MarkedOver}
use Rattle.asked.specs.Chase.{Answered, Chased}
use Rattle.asked.specs.Narrow.{Cleared}
use Rattle.asked.proofs.WordBits.{same_views, length-questions, view_questions, no_word, bit_none, bit_own, bit_other}
use Rattle.asked.proofs.Chasing.{answered_out}
use Rattle.asked.proofs.Fair.{zeros}
use Rattle.asked.proofs.Serving.{served_marked, mark_of}

-- an entry of a table of zeros
no_view : (r t : ℕ) → view (replicate (records * terms) 0) r t ≡ 0
unfolding view
no_view r t = zeros (records * terms) (place r t)

-- Rows of zeros from the first on are a table of zeros.
pub all_cleared : {b d : List ℕ} → Whole b → Cleared 0 (records - 0) b d → d ≡ replicate (records * terms) 0
unfolding Whole view terms
all_cleared {b} {d} whole cleared = same_views d (replicate (records * terms) 0) (cleared.long ∙ whole) (length-replicate (records * terms) 0) λ r t h k.
    let on : place r t ≡ 0 * terms + r * terms + t = omega arith in
    ap (λ i. get_or d i 0) on ∙ cleared.there r t (omega arith) k ∙ sym (no_view r t)

-- Rows of zeros from that of the words on have no mark, and keep the threads.
module _ (n : ℕ) {b d : List ℕ} (cleared : Cleared n (records - n) b d) (first : n * terms ≡ marks_at) where
  none_there : (i : ℕ) → marks_at ≤ i → i < records * terms → get_or d i 0 ≡ 0
  unfolding terms
  none_there i h k =
      let on : i ≡ n * terms + (i / terms - n) * terms + i % terms = omega arith in
      ap (λ j. get_or d j 0) on ∙ cleared.there (i / terms - n) (i % terms) (omega arith) (omega arith)

  pub no_marks : markeds d ≡ replicate (records * terms) 0
  unfolding terms triples records
  no_marks = same_views (markeds d) (replicate (records * terms) 0) (length-questions marks_at d) (length-replicate {A = ℕ} (records * terms) 0) λ r t h k.
      let empty : mark_of d t ≡ 0 = no_word d (marks_at + size * t) (λ i from to. none_there i (omega arith) (omega arith)) in
      view_questions marks_at d r t h k ∙ ap (λ w. bit w r) empty ∙ bit_none r ∙ sym (no_view r t)

  pub threads_left : fewest.Kept b d
  threads_left = kept_bytes cleared.long (λ i h. cleared.below i (omega arith))

-- zeros are bits
pub zeros_bits : (n : ℕ) {e : List ℕ} → e ≡ replicate n 0 → Bits e
unfolding Bits
zeros_bits n clear i = rw clear (omega (arith, zeros n i))

-- The marks are those that the rule begins with.
pub begun_marks : {r z : ℕ} {b d e : List ℕ} (n : ℕ) → r < records → z < terms → markeds b ≡ replicate (records * terms) 0 → e ≡ replicate n 0 →
    SetMarked (2 ^ r) z b d → marks (markeds d) e ≡ begun r z n
unfolding begun
begun_marks {r} {z} {b} {d} n h k clear clear-ends one = rw (same, clear-ends)
  where
    none : (q u : ℕ) → view (markeds b) q u ≡ 0
    none q u = rw clear (no_view q u)

    same : markeds d ≡ set (replicate (records * terms) 0) (place r z) 1
    same = same_views (markeds d) (set (replicate (records * terms) 0) (place r z) 1) (length-questions marks_at d) (length-set (replicate (records * terms) 0) (place r z) 1 ∙ length-replicate (records * terms) 0) λ q u l m.
        elim (ℕ_discrete u z) [
          | yes e ↦ elim (ℕ_discrete q r) [
            | yes f ↦ rw (e, f, view_set_same (replicate (records * terms) 0) r z 1 (rw (length-replicate {A = ℕ} (records * terms) 0) (place_below h k))) (one.there r h ∙ (omega (arith, none r z, bit_own r)))
            | no f ↦ rw (e, view_set_other (replicate (records * terms) 0) {r = r} {q = q} {t = z} {u = z} 1 k k (inl (λ y. f (sym y)))) (one.there q l ∙ (omega (arith, none q z, bit_other r q f, no_view q z)))
          ]
          | no e ↦ rw (view_set_other (replicate (records * terms) 0) {r = r} {q = q} {t = z} {u = u} 1 k m (inr (λ y. e (sym y)))) (one.others q u l m e ∙ none q u ∙ sym (no_view q u))
        ]

-- Where no question is marked, none is served, nor is one where a mark was made since: so every one is answered.
pub none_answered : {F : Frame} {T : List ℕ} {rs : List Rec} {first b d ends : List ℕ} → markeds b ≡ replicate (records * terms) 0 → Kept b d →
    Answered F T rs first d ends
unfolding view
none_answered {b = b} clear kept = record {
  each = λ r t h k s w i.
      let e = rw clear at (served_marked b (place r t) (rw kept.served at s)) in
      absurd (omega (arith, zeros (records * terms) (place r t)));
}

-- What is chased from there until none waits is marked from there.
pub chased_from : {site : List ℕ} {n : ℕ} {rule up role first T b d ends ends' : List ℕ} {z k : ℕ} →
    marks (markeds b) ends ≡ begun (length (records_of rule) - 1) z k →
    ((g : Goal) → Answered (frame (site_of site n) up role g) T (records_of rule) first b ends) →
    Chased site n rule up role first T b ends d ends' → NoneWaits d (length (records_of rule) * terms) →
    MarkedOver site n rule up role first T z k (marks (markeds d) ends')
chased_from begins before p none = λ g. record { reached = rw begins at (p.reached g); out = answered_out (p.answered g (before g)) none }
