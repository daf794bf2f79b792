-- The laws of numbers in byte pairs: what is read at a place, what a store leaves, and what filling makes.
-- Above them no proof looks at a byte.
use Prim.Native.Nat.{ℕ, suc, zero, ◌+◌, ◌*◌, ◌/◌, ◌<◌, ◌≤◌}
use mathlib.Core.Path.{◌≡◌, refl, ap}
use mathlib.Core.List.{List, [], ◌∷◌}
use native.Mathlib.Omega.{arith}
use native.Mathlib.Decide.{dec_lt}
use lib.ListN.{length, get_or, set, replicate, get_or-eq_default}
use Rattle.records.specs.Bytes.{base}
use Rattle.fewest.specs.Pairs.{coupled, pairs}
use Rattle.fewest.specs.Cells.{cells}

twice : (i : ℕ) → suc i + suc i ≡ suc (suc (i + i))
twice i = omega arith

odd : (i : ℕ) → suc i + suc i + 1 ≡ suc (suc (i + i + 1))
odd i = omega arith

-- whatever number two bytes make
module _ (made : ℕ → ℕ → ℕ) where
  at : (b : List ℕ) (i : ℕ) → i + i + 1 < length b → get_or (coupled made b) i 0 ≡ made (get_or b (i + i) 0) (get_or b (i + i + 1) 0)
  at [] i h = absurd (omega arith)
  at (x ∷ []) i h = absurd (omega arith)
  at (x ∷ (y ∷ b)) zero h = refl
  at (x ∷ (y ∷ b)) (suc i) h = rw (odd i, twice i) (at b i (omega arith))

  store : (b : List ℕ) (i x y : ℕ) → i + i + 1 < length b → coupled made (set (set b (i + i) x) (i + i + 1) y) ≡ set (coupled made b) i (made x y)
  store [] i x y h = absurd (omega arith)
  store (u ∷ []) i x y h = absurd (omega arith)
  store (u ∷ (v ∷ b)) zero x y h = refl
  store (u ∷ (v ∷ b)) (suc i) x y h = rw (odd i, twice i) (ap (λ (l : List ℕ). made u v ∷ l) (store b i x y (omega arith)))

  -- half as many numbers as bytes
  long : (b : List ℕ) → length (coupled made b) ≡ length b / 2
  long [] = refl
  long (x ∷ []) = refl
  long (x ∷ (y ∷ b)) = let k = long b in omega arith

pub pairs_at : (b : List ℕ) (i : ℕ) → i + i + 1 < length b → get_or (pairs b) i 0 ≡ get_or b (i + i) 0 * base + get_or b (i + i + 1) 0
unfolding pairs
pairs_at = at _

pub pairs_long : (b : List ℕ) → length (pairs b) ≡ length b / 2
unfolding pairs
pairs_long = long _

-- two bytes make no number above the greatest
pub pairs_top : (b : List ℕ) → ((i : ℕ) → get_or b i 0 < base) → (i : ℕ) → get_or (pairs b) i 0 < base * base
pairs_top b bytes i = elim (dec_lt (i + i + 1) (length b)) [
  | yes h ↦ let high = bytes (i + i) in let low = bytes (i + i + 1) in rw (pairs_at b i h) (omega arith)
  | no h ↦ let past : length (pairs b) ≤ i = rw (pairs_long b) (omega arith) in rw (get_or-eq_default (pairs b) 0 past) (omega arith)
]

pub pairs_set : (b : List ℕ) (i x y : ℕ) {v : ℕ} → i + i + 1 < length b → x * base + y ≡ v → pairs (set (set b (i + i) x) (i + i + 1) y) ≡ set (pairs b) i v
unfolding pairs
pairs_set b i x y h e = rw (← e) (store _ b i x y h)

pub cells_at : (b : List ℕ) (i : ℕ) → i + i + 1 < length b → get_or (cells b) i 0 ≡ get_or b (i + i + 1) 0 * base + get_or b (i + i) 0
unfolding cells
cells_at = at _

pub cells_set : (b : List ℕ) (i x y : ℕ) {v : ℕ} → i + i + 1 < length b → y * base + x ≡ v → cells (set (set b (i + i) x) (i + i + 1) y) ≡ set (cells b) i v
unfolding cells
cells_set b i x y h e = rw (← e) (store _ b i x y h)

pub cells_long : (b : List ℕ) → length (cells b) ≡ length b / 2
unfolding cells
cells_long = long _

-- bytes that are all the same make numbers that are
pub pairs_same : (n v : ℕ) → pairs (replicate (n + n) v) ≡ replicate n (v * base + v)
unfolding pairs
pairs_same zero v = refl
pairs_same (suc n) v = rw (twice n) (ap (λ (l : List ℕ). (v * base + v) ∷ l) (pairs_same n v))
