-- Which questions are marked, wait and are served, by the bits of the words: what a store of each kind leaves of them. A mark serves
-- no question, to take one up serves it, and a byte that is queued touches neither.
use Prim.Native.Nat.{ℕ, ◌+◌, ◌*◌, ◌-◌, ◌^◌, ◌<◌, ◌≤◌}
use mathlib.Core.Path.{◌≡◌, refl, sym, ap, ◌∙◌}
use mathlib.Core.Bool.{true, true≢false}
use mathlib.Core.Logic.{◌≢◌, ◌⊎◌, inl, inr}
use mathlib.Core.List.{List}
use native.Mathlib.Nat.{le_refl}
use native.Mathlib.Omega.{arith}
use native.Mathlib.Decide.{ℕ_discrete, dec_lt}
use lib.Bits.{bit_or, bit_xor}
use lib.ListN.{length, get_or, set, length-set, get_or-eq_default}
use lib.Seq.{get_or-set_other}
use Rattle.meaning.specs.Limits.{terms, records}
use Rattle.fewest.specs.Offer.{place, view}
use Rattle.fewest.specs.Threads.{free}
use Rattle.fewest.proofs.Keeping.{kept_bytes, kept_byte}
use Rattle.fewest.proofs.Places.{place_below, view_set_same, view_set_other}
use Rattle.asked.specs.Words.{size, bit, word, WordPut, marks_at, waits_at, questions}
use Rattle.asked.specs.Mark.{blank}
use Rattle.asked.specs.Serve.{markeds, waitings, Waits, serveds, Fewer, Kept, Aside, Renewed, SetMarked, OneServed, TakenUp}
use Rattle.asked.specs.Seek.{Bits}
use Rattle.asked.proofs.Marking.{blank_mark}
use Rattle.asked.proofs.WordBits.{length-listed, get_or-listed, same_views, length-questions, view_questions, same_word, words_apart, word_others, bit_of_or, bit_of_xor, bit_own, bit_other, questions_bits}

-- the word of term t
abbrev pub mark_of : List ℕ → ℕ → ℕ
mark_of b t = word b (marks_at + size * t)

abbrev pub wait_of : List ℕ → ℕ → ℕ
wait_of b t = word b (waits_at + size * t)

-- Words that are as they were hold the questions that they held.
pub same_questions : (at : ℕ) (b d : List ℕ) → ((t : ℕ) → t < terms → word d (at + size * t) ≡ word b (at + size * t)) → questions at d ≡ questions at b
same_questions at b d same = same_views (questions at d) (questions at b) (length-questions at d) (length-questions at b)
    λ r t h k. view_questions at d r t h k ∙ ap (λ w. bit w r) (same t k) ∙ sym (view_questions at b r t h k)

module _ (b : List ℕ) where
  pub length-serveds : length (serveds b) ≡ records * terms
  unfolding serveds
  length-serveds = length-listed _ (records * terms)

  get_or-serveds : (i : ℕ) → i < records * terms → get_or (serveds b) i 0 ≡ get_or (markeds b) i 0 - get_or (waitings b) i 0
  unfolding serveds
  get_or-serveds i h = get_or-listed (λ i. get_or (markeds b) i 0 - get_or (waitings b) i 0) (records * terms) i h

  -- which are served, by the bits
  difference : (r t : ℕ) → r < records → t < terms → view (serveds b) r t ≡ view (markeds b) r t - view (waitings b) r t
  unfolding view
  difference r t h k = get_or-serveds (place r t) (place_below h k)

  pub view_serveds : (r t : ℕ) → r < records → t < terms → view (serveds b) r t ≡ bit (mark_of b t) r - bit (wait_of b t) r
  view_serveds r t h k = difference r t h k ∙ (rw (view_questions marks_at b r t h k, view_questions waits_at b r t h k))

  -- past the table there is none
  inside : (i : ℕ) → get_or (markeds b) i 0 ≡ 1 → i < records * terms
  inside i e = elim (dec_lt i (records * terms)) [
    | yes h ↦ h
    | no h ↦ absurd (omega (arith, get_or-eq_default (markeds b) 0 {n = i} (omega (arith, length-questions marks_at b))))
  ]

  -- What waits is marked and not served; what is marked waits or is served.
  module _ (i : ℕ) where
    waits_unserved : Waits b i → get_or (serveds b) i 0 ≡ 0
    waits_unserved w = let m = w.marked in let e = w.waits in omega (arith, get_or-serveds i (inside i m))

    pub served_or_waits : get_or (markeds b) i 0 ≡ 1 → (get_or (serveds b) i 0 ≡ 1) ⊎ Waits b i
    unfolding Bits
    served_or_waits e = elim (ℕ_discrete (get_or (waitings b) i 0) 1) [
      | yes f ↦ inr (record { marked = e; waits = f })
      | no f ↦ inl (omega (arith, get_or-serveds i (inside i e), questions_bits waits_at b i))
    ]

    pub served_marked : get_or (serveds b) i 0 ≡ 1 → get_or (markeds b) i 0 ≡ 1
    unfolding Bits
    served_marked e = elim (dec_lt i (records * terms)) [
      | yes h ↦ omega (arith, get_or-serveds i h, questions_bits marks_at b i)
      | no h ↦ absurd (omega (arith, get_or-eq_default (serveds b) 0 {n = i} (omega (arith, length-serveds))))
    ]

  -- a question that waits, by the bits
  pub waits_by : (r t : ℕ) → r < records → t < terms → bit (mark_of b t) r ≡ 1 → bit (wait_of b t) r ≡ 1 → Waits b (place r t)
  unfolding view
  waits_by r t h k m w = record { marked = view_questions marks_at b r t h k ∙ m; waits = view_questions waits_at b r t h k ∙ w }

  pub waits_bits : (r t : ℕ) → r < records → t < terms → Waits b (place r t) → (bit (mark_of b t) r ≡ 1) × (bit (wait_of b t) r ≡ 1)
  unfolding view
  waits_bits r t h k w = (sym (view_questions marks_at b r t h k) ∙ w.marked, sym (view_questions waits_at b r t h k) ∙ w.waits)

-- The same are served where the bits tell so.
same_serveds : (b d : List ℕ) → ((r t : ℕ) → r < records → t < terms →
    bit (mark_of d t) r - bit (wait_of d t) r ≡ bit (mark_of b t) r - bit (wait_of b t) r) → serveds d ≡ serveds b
same_serveds b d same = same_views (serveds d) (serveds b) (length-serveds d) (length-serveds b)
    λ r t h k. view_serveds d r t h k ∙ same r t h k ∙ sym (view_serveds b r t h k)

-- Nothing done.
pub kept_none : (b : List ℕ) → Kept b b
kept_none b = record { long = refl; served = refl; below = λ i h. refl }

pub kept_then : {b c d : List ℕ} → Kept b c → Kept c d → Kept b d
kept_then p q = record { long = q.long ∙ p.long; served = q.served ∙ p.served; below = λ i h. q.below i h ∙ p.below i h }

-- A byte between the threads and the words was stored.
pub byte_aside : (b : List ℕ) (i v : ℕ) → free + free ≤ i → i < marks_at → Aside b (set b i v)
byte_aside b i v behind before = record {
  same = same_questions marks_at b (set b i v) (λ t h. word_same (marks_at + size * t) (omega arith));
  kept = record {
    long = simp length-set;
    served = same_serveds b (set b i v) (λ r t h k. rw (word_same (marks_at + size * t) (omega arith), word_same (waits_at + size * t) (omega arith)));
    below = (kept_byte b i v behind).same;
  };
}
  where
    word_same : (at : ℕ) → i < at → word (set b i v) at ≡ word b at
    word_same at h = same_word b (set b i v) at (λ k l. get_or-set_other b i (at + k) v 0 (omega arith))

-- Two words of a term were stored.
pub renewed : {t old all : ℕ} {b c d : List ℕ} → t < terms → WordPut (marks_at + size * t) all b c →
    WordPut (waits_at + size * t) (bit_or (wait_of c t) (bit_xor all old)) c d → Renewed t old all b d
renewed {t} {old} {all} {b} {c} {d} h one two = record {
  long = two.long ∙ one.long;
  marked = word_others two (marks_at + size * t) (inl (omega arith)) ∙ one.stored;
  waits = λ r. ap (λ w. bit w r) two.stored ∙ bit_of_or (wait_of c t) (bit_xor all old) r ∙ (rw (word_others one (waits_at + size * t) (inr (omega arith))));
  others = λ u k apart. (
    word_others two (marks_at + size * u) (inl (omega arith)) ∙ word_others one (marks_at + size * u) (words_apart marks_at apart),
    word_others two (waits_at + size * u) (words_apart waits_at apart) ∙ word_others one (waits_at + size * u) (inr (omega arith)),
  );
  below = (kept_bytes (two.long ∙ one.long) (λ i k. two.others i (inl (omega arith)) ∙ one.others i (inl (omega arith)))).same;
}

-- A set was marked at t.
module _ {set t : ℕ} {b : List ℕ} (h : t < terms) where
  pub set_marked : {d : List ℕ} → Renewed t (mark_of b t) (bit_or (mark_of b t) set) b d → SetMarked set t b d
  set_marked {d} new = record {
    there = λ r k. view_questions marks_at d r t k h ∙ ap (λ w. bit w r) new.marked ∙ bit_of_or (mark_of b t) set r ∙ (rw (view_questions marks_at b r t k h));
    others = λ r u k l apart. view_questions marks_at d r u k l ∙ ap (λ w. bit w r) (new.others u l apart).0 ∙ sym (view_questions marks_at b r u k l);
    kept = record { long = new.long; served = same_serveds b d same; below = new.below };
  }
    where
      same : (r u : ℕ) → r < records → u < terms → bit (mark_of d u) r - bit (wait_of d u) r ≡ bit (mark_of b u) r - bit (wait_of b u) r
      same r u k l = elim (ℕ_discrete u t) [
        | yes e ↦ rw (e, new.marked, new.waits r) (omega (arith, bit_of_or (mark_of b t) set r, bit_of_xor (bit_or (mark_of b t) set) (mark_of b t) r))
        | no e ↦ rw ((new.others u l e).0, (new.others u l e).1)
      ]

  -- Or all of it was.
  pub set_there : bit_or (mark_of b t) set ≡ mark_of b t → SetMarked set t b b
  set_there e = record {
    there = λ r k. rw (view_questions marks_at b r t k h) (omega (arith, bit_of_or (mark_of b t) set r, ap (λ w. bit w r) e));
    others = λ r u k l apart. refl;
    kept = kept_none b;
  }

-- A question that waits is taken up.
module _ (b : List ℕ) {r t : ℕ} (row : r < records) (h : t < terms) where
  pub taken_up : {d : List ℕ} → WordPut (waits_at + size * t) (bit_xor (wait_of b t) (2 ^ r)) b d → Waits b (place r t) → TakenUp r t b d true
  taken_up {d} put waits = record {
    long = put.long;
    same = same_questions marks_at b d marks;
    below = (kept_bytes put.long (λ i k. put.others i (inl (omega arith)))).same;
    served = record { waited = λ _. one; left = λ n. absurd (n waits) };
    waited = λ _. waits;
    left = λ nay. absurd (true≢false nay);
  }
    where
      both : (bit (mark_of b t) r ≡ 1) × (bit (wait_of b t) r ≡ 1)
      both = waits_bits b r t row h waits

      marks : (u : ℕ) → u < terms → mark_of d u ≡ mark_of b u
      marks u k = word_others put (marks_at + size * u) (inl (omega arith))

      -- the word of another term is not touched
      beside : (u : ℕ) → u ≢ t → wait_of d u ≡ wait_of b u
      beside u apart = word_others put (waits_at + size * u) (words_apart waits_at apart)

      -- nor is another record's bit
      there : (q : ℕ) → q ≢ r → bit (wait_of d t) q ≡ bit (wait_of b t) q
      there q apart = rw put.stored (omega (arith, bit_of_xor (wait_of b t) (2 ^ r) q, bit_other r q apart))

      own : bit (wait_of d t) r ≡ 0
      own = rw put.stored (omega (arith, bit_of_xor (wait_of b t) (2 ^ r) r, bit_own r, both))

      view_one : (q u : ℕ) → q < records → u < terms → view (serveds d) q u ≡ view (set (serveds b) (place r t) 1) q u
      view_one q u k l = elim (ℕ_discrete u t) [
        | yes e ↦ elim (ℕ_discrete q r) [
          | yes f ↦ rw (e, f, view_serveds d r t row h, marks t h, own, view_set_same (serveds b) r t 1 (rw (length-serveds b) (place_below row h))) (omega (arith, both))
          | no f ↦ rw (e, view_serveds d q t k h, marks t h, there q f, view_set_other (serveds b) {r = r} {q = q} {t = t} {u = t} 1 h h (inl (λ z. f (sym z))), view_serveds b q t k h)
        ]
        | no e ↦ rw (view_serveds d q u k l, marks u l, beside u e, view_set_other (serveds b) {r = r} {q = q} {t = t} {u = u} 1 h l (inr (λ z. e (sym z))), view_serveds b q u k l)
      ]

      one : serveds d ≡ set (serveds b) (place r t) 1
      one = same_views (serveds d) (set (serveds b) (place r t) 1) (length-serveds d) (length-set (serveds b) (place r t) 1 ∙ length-serveds b) view_one

-- One question more is served, if it waited.
module _ {r t : ℕ} {b d : List ℕ} (one : OneServed r t b d) (h : place r t < records * terms) where
  pub one_falls : Waits b (place r t) → Fewer b d
  one_falls w = rw (one.waited w) (blank_mark (serveds b) (place r t) (rw (length-serveds b) h) (waits_unserved b (place r t) w))

  pub one_fewer : blank (serveds d) ≤ blank (serveds b)
  one_fewer = elim (ℕ_discrete (get_or (markeds b) (place r t) 0) 1) [
    | yes m ↦ elim (ℕ_discrete (get_or (waitings b) (place r t) 0) 1) [
      | yes w ↦ omega (arith, one_falls (record { marked = m; waits = w }))
      | no w ↦ rw (one.left (λ k. w k.waits)) (le_refl _)
    ]
    | no m ↦ rw (one.left (λ k. m k.marked)) (le_refl _)
  ]

-- After a first turn at this question, and whatever comes then, more are served if it waited.
pub turned : {from t r : ℕ} {b₀ b d : List ℕ} → ((b ≡ b₀) × (r ≡ from)) ⊎ (Waits b₀ (place from t) → Fewer b₀ b) → place r t < records * terms →
    OneServed r t b d → Waits b₀ (place from t) → Fewer b₀ d
turned (inl (same, is)) h one w = one_falls (rw (same, is) at one) (rw is at h) w
turned (inr falls) h one w = omega (arith, falls w, one_fewer one h)
