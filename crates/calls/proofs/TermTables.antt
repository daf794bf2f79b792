-- A table that tells of each term whether a thing is so: it begins with nothing and gets one mark after another; its entries are
-- bits, and its sum is the number of terms of which the thing is so.
use Prim.Native.Nat.{ℕ, ◌<◌, ◌≤◌}
use mathlib.Core.Path.{◌≡◌, ◌∙◌}
use mathlib.Core.Logic.{◌⊎◌, inl, inr, ⊎_elim, ◌↔◌}
use mathlib.Core.List.{List}
use native.Mathlib.Omega.{arith}
use native.Mathlib.Decide.{ℕ_discrete, dec_lt}
use lib.ListN.{get_or, set, replicate, length-set, length-replicate, get_or-replicate, get_or-eq_default}
use lib.Seq.{get_or-set_same, get_or-set_other}
use Rattle.meaning.specs.Limits.{terms}
use Rattle.meaning.specs.Question.{Tells, Count}
use Rattle.meaning.proofs.Counting.{count_told}
use Rattle.fewest.specs.Sweep.{sum}
use Rattle.asked.specs.Seek.{Bits}
use Rattle.asked.proofs.Sums.{sum_total, sum_few}
use Rattle.calls.specs.Tables.{TermTable}

-- 0 tells that a thing is not so
tells_not : {P : Type 0} {b : ℕ} → b ≡ 0 → (P → ⊥) → Tells P b
tells_not e never = record { bit = omega arith; exactly = (λ f. absurd (omega arith), λ p. absurd (never p)) }

-- what tells of a thing tells of what is so just where it is
tells_same : {P Q : Type 0} {b : ℕ} → P ↔ Q → Tells P b → Tells Q b
tells_same h x = record { bit = x.bit; exactly = (λ e. h.0 (x.exactly.0 e), λ q. x.exactly.1 (h.1 q)) }

-- A table of 0 tells of what is nowhere so.
pub table_none : {P : ℕ → Type 0} {b : List ℕ} → b ≡ replicate terms 0 → ((u : ℕ) → P u → ⊥) → TermTable P b
table_none e never = record {
  long = rw e (length-replicate {A = ℕ} terms 0);
  tells = λ u h. tells_not (rw e (get_or-replicate terms u 0 0 h)) (never u);
}

-- A table tells as well of what is so at the same terms.
pub table_same : {P Q : ℕ → Type 0} {b : List ℕ} → ((u : ℕ) → u < terms → P u ↔ Q u) → TermTable P b → TermTable Q b
table_same h x = record { long = x.long; tells = λ u k. tells_same (h u k) (x.tells u k) }

-- One more mark tells of one more term.
pub table_mark : {P : ℕ → Type 0} {b : List ℕ} {t : ℕ} → TermTable P b → t < terms → TermTable (λ u. P u ⊎ (u ≡ t)) (set b t 1)
table_mark {P} {b} {t} x h = record { long = length-set b t 1 ∙ x.long; tells = told }
  where
    told : (u : ℕ) → u < terms → Tells (P u ⊎ (u ≡ t)) (get_or (set b t 1) u 0)
    told u k = elim (ℕ_discrete u t) [
      | yes e ↦
          let here : get_or (set b t 1) u 0 ≡ 1 = rw e (get_or-set_same b t 1 0 (rw x.long h)) in
          record { bit = omega arith; exactly = (λ f. inr e, λ p. here) }
      | no e ↦
          rw (get_or-set_other b t u 1 0 e)
          (tells_same (inl, λ p. ⊎_elim (λ q. q) (λ f. absurd (e f)) p) (x.tells u k))
    ]

module _ {P : ℕ → Type 0} {b : List ℕ} (x : TermTable P b) where
  -- Its entries are bits.
  pub table_bits : Bits b
  unfolding Bits
  table_bits u = elim (dec_lt u terms) [
    | yes h ↦ (x.tells u h).bit
    | no h ↦ let e = get_or-eq_default b 0 {n = u} (rw x.long (omega arith)) in omega arith
  ]

  -- Its sum is the number of terms of which the thing is so,
  pub table_count : Count (λ u. (u < terms) × P u) (sum b)
  table_count = rw (sum_total b) (rw x.long (count_told terms (λ u. get_or b u 0) x.tells))

  -- which is at most the number of terms.
  pub table_few : sum b ≤ terms
  table_few = rw (← x.long) (sum_few b table_bits)
