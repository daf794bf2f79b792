-- The places of a table: row by record, place by term. No two entries share a place, so a store changes one entry.
-- The only laws that know how a place is made.
use Prim.Native.Nat.{ℕ, ◌+◌, ◌*◌, ◌/◌, ◌%◌, ◌<◌}
use mathlib.Core.Path.{◌≡◌, sym, ap, ◌∙◌}
use mathlib.Core.Logic.{◌⊎◌, inl, inr, ◌≢◌}
use mathlib.Core.List.{List}
use native.Mathlib.Omega.{arith}
use native.Mathlib.Decide.{ℕ_discrete, dec_lt}
use lib.ListN.{length, get_or, set, get_or-eq_default}
use lib.Arith.{digits_lt, digits_div, digits_mod}
use lib.Seq.{get_or-set_same, get_or-set_other}
use Rattle.meaning.specs.Limits.{terms, records}
use Rattle.fewest.specs.Offer.{place, view}

-- two places are one only if row and place in it are (in rows of any width)
pub one_place : {width r q t u : ℕ} → t < width → u < width → r * width + t ≡ q * width + u → (r ≡ q) × (t ≡ u)
one_place {width} {r} {q} h k e = (
  sym (digits_div r h) ∙ ap (λ (x : ℕ). x / width) e ∙ digits_div q k,
  sym (digits_mod r h) ∙ ap (λ (x : ℕ). x % width) e ∙ digits_mod q k,
)

-- the place of a record and a term is in the table
pub place_below : {r t : ℕ} → r < records → t < terms → place r t < records * terms
place_below h k = digits_lt h k

-- what is above a number is in the table: outside it there is nothing but 0
pub entry_inside : {v : ℕ} (T : List ℕ) (i : ℕ) → v < get_or T i 0 → i < length T
entry_inside T i h = elim (dec_lt i (length T)) [ yes k ↦ k | no k ↦ absurd (omega (arith, get_or-eq_default T 0 {n = i} (omega arith))) ]

-- after a store an entry is what was stored, at the place of the store, or what it was
pub stored : (T : List ℕ) (i v : ℕ) → i < length T → (k : ℕ) →
    ((k ≡ i) × (get_or (set T i v) k 0 ≡ v)) ⊎ (get_or (set T i v) k 0 ≡ get_or T k 0)
stored T i v h k = elim (ℕ_discrete k i) [
  | yes e ↦ inl (e, rw e (get_or-set_same T i v 0 h))
  | no e ↦ inr (get_or-set_other T i k v 0 e)
]

-- the same, read by record and term
pub view_set_same : (T : List ℕ) (r t v : ℕ) → place r t < length T → view (set T (place r t) v) r t ≡ v
unfolding view
view_set_same T r t v h = get_or-set_same T (place r t) v 0 h

pub view_set_other : (T : List ℕ) {r q t u : ℕ} (v : ℕ) → t < terms → u < terms → (r ≢ q) ⊎ (t ≢ u) →
    view (set T (place r t) v) q u ≡ view T q u
unfolding view
view_set_other T {r} {q} {t} {u} v h k apart = get_or-set_other T (place r t) (place q u) v 0 (λ e. differ (one_place h k (sym e)) apart)
  where
    differ : (r ≡ q) × (t ≡ u) → (r ≢ q) ⊎ (t ≢ u) → ⊥
    differ e (inl f) = f e.0
    differ e (inr f) = f e.1
