-- The bound of a table of numbers holds of the table full of none, and a store keeps it that lowers an entry to 0 or 1,
-- to a number of the table or to one step more than one. So one step more than a number is never none.
use Prim.Native.Nat.{ℕ, zero, suc, ◌+◌, ◌*◌, ◌<◌, ◌≤◌}
use mathlib.Core.Path.{◌≡◌, ◌∙◌}
use mathlib.Core.Logic.{◌⊎◌, inl, inr, ◌≢◌, ⊎_elim}
use mathlib.Core.List.{List, [], ◌∷◌, map, map-id}
use native.Mathlib.Nat.{le_refl}
use native.Mathlib.Omega.{arith}
use native.Mathlib.Decide.{dec_lt, ℕ_discrete}
use lib.ListN.{length, get_or, set, replicate, length-set, length-replicate, get_or-replicate, get_or-eq_default}
use lib.Dec.{lit<}
use borrow.Author.Tests.{eq-eqb, ne_eqb}
use Rattle.meaning.specs.Limits.{terms, records, none}
use Rattle.meaning.proofs.None.{none_positive}
use Rattle.fewest.specs.Sweep.{sum}
use Rattle.fewest.specs.Bounded.{one_if_none, nones, Bounded}
use Rattle.fewest.proofs.Places.{entry_inside, stored}

-- a store changes any total over the table by what it puts in the place of the entry
pub total_set : (f : ℕ → ℕ) (T : List ℕ) (i v : ℕ) → i < length T → sum (map f (set T i v)) + f (get_or T i 0) ≡ sum (map f T) + f v
unfolding sum
total_set f [] i v h = absurd (omega arith)
total_set f (x ∷ T) zero v h = omega arith
total_set f (x ∷ T) (suc i) v h = let k = total_set f T i v (omega arith) in omega arith

-- The sum of a table falls with each store that lowers an entry.
pub sum_falls : (T : List ℕ) (i v : ℕ) → v < get_or T i 0 → sum (set T i v) < sum T
sum_falls T i v h =
    let k = simp map-id at (total_set (λ (x : ℕ). x) T i v (entry_inside T i h)) in
    omega arith

-- an entry counts if it is none, and only then
counted : (x : ℕ) → ((x ≡ none) × (one_if_none x ≡ 1)) ⊎ ((x ≢ none) × (one_if_none x ≡ 0))
counted x = elim (ℕ_discrete x none) [
  | yes e ↦ inl (e, rw (eq-eqb x none e))
  | no e ↦ inr (e, rw (ne_eqb x none e))
]

nones_at_most : (T : List ℕ) → nones T ≤ length T
unfolding nones sum
nones_at_most [] = omega arith
nones_at_most (x ∷ T) = let k = nones_at_most T in ⊎_elim (λ e. omega arith) (λ e. omega arith) (counted x)

-- a store that lowers an entry takes one from the entries that are none, or the entry was a number
nones_set : (T : List ℕ) (i v : ℕ) → v < get_or T i 0 → get_or T i 0 ≤ none →
    (nones (set T i v) + 1 ≡ nones T) ⊎ ((get_or T i 0 < none) × (nones (set T i v) ≡ nones T))
unfolding nones
nones_set T i v h top =
    let k = total_set one_if_none T i v (entry_inside T i h) in
    let z : one_if_none v ≡ 0 = ⊎_elim (λ e. absurd (omega arith)) (λ e. e.1) (counted v) in
    ⊎_elim (λ e. inl (omega arith)) (λ e. inr (omega arith)) (counted (get_or T i 0))

-- the numbers to which the table allows an entry to be lowered: up to one more than a number in it (outside it stands 0)
abbrev pub Fresh : List ℕ → ℕ → Type 0
Fresh T v = (i : ℕ) × (get_or T i 0 < none) × (v ≤ get_or T i 0 + 1)

pub one_fresh : (T : List ℕ) → Fresh T 1
one_fresh T = (length T, omega (arith, none_positive, get_or-eq_default T 0 (le_refl (length T))), omega arith)

-- The table full of none is bounded.
pub bounded_full : Bounded (replicate (records * terms) none)
bounded_full =
    let long = length-replicate (records * terms) none in
    record {
      long = long;
      small = λ i h k. absurd (omega (arith, get_or-replicate (records * terms) i none 0 (omega arith)));
      top = λ i. elim (dec_lt i (records * terms)) [
        | yes h ↦ omega (arith, get_or-replicate (records * terms) i none 0 h)
        | no h ↦ omega (arith, get_or-eq_default (replicate (records * terms) none) 0 {n = i} (omega arith))
      ];
    }

-- the table has room below none for one step more than its length
room : records * terms + 1 < none
unfolding records terms none
room = lit< tt

module _ {T : List ℕ} (b : Bounded T) where
  -- the bound, inside the table or not
  bounded_number : (i : ℕ) → get_or T i 0 < none → get_or T i 0 + nones T ≤ length T
  bounded_number i h = elim (dec_lt i (length T)) [
    | yes k ↦ b.small i k h
    | no k ↦ omega (arith, get_or-eq_default T 0 {n = i} (omega arith), nones_at_most T)
  ]

  -- One step more than a number of the table is below none.
  pub fresh_below : {v : ℕ} → Fresh T v → v < none
  fresh_below (i, h, l) = omega (arith, bounded_number i h, b.long, room)

  -- A store that lowers an entry to such a number keeps the bound.
  pub bounded_store : (i v : ℕ) → v < get_or T i 0 → Fresh T v → Bounded (set T i v)
  bounded_store i v h (j, n, f) = record {
    long = long ∙ b.long;
    small = λ k l m. ⊎_elim (λ e. omega (arith, long, counts.1))
        (λ e. omega (arith, long, counts.0, bounded_number k (omega arith))) (entry k);
    top = λ k. ⊎_elim (λ e. omega (arith, b.top i)) (λ e. omega (arith, b.top k)) (entry k);
  }
    where
      entry : (k : ℕ) → ((k ≡ i) × (get_or (set T i v) k 0 ≡ v)) ⊎ (get_or (set T i v) k 0 ≡ get_or T k 0)
      entry = stored T i v (entry_inside T i h)

      long : length (set T i v) ≡ length T
      long = length-set T i v

      counts : (nones (set T i v) ≤ nones T) × (v + nones (set T i v) ≤ length T)
      counts =
          let k = bounded_number j n in
          ⊎_elim (λ e. omega arith) (λ e. let own = bounded_number i e.0 in omega arith) (nones_set T i v h (b.top i))
