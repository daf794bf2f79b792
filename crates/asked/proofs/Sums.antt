-- The sum of a table, which is counted part by part, is the total of its rows.
use Prim.Native.Nat.{ℕ, zero, suc, ◌+◌, ◌*◌, ◌<◌, ◌≤◌}
use mathlib.Core.Path.{◌≡◌, refl, sym, ◌∙◌}
use mathlib.Core.List.{List, [], ◌∷◌, ◌++◌}
use native.Mathlib.Omega.{arith}
use Rattle.std.proofs.Math.Numerals.{add-one}
use lib.ListN.{length, get_or, take, drop}
use Rattle.std.proofs.lemmas.List.{take-append-drop}
use Rattle.meaning.specs.Limits.{terms, records}
use Rattle.meaning.proofs.Counting.{total, total_rows}
use Rattle.fewest.specs.Offer.{view}
use Rattle.fewest.specs.Sweep.{sum}
use Rattle.asked.specs.Seek.{Bits}

-- the first of the numbers may be added first
total_first : (n : ℕ) (w : ℕ → ℕ) → total (suc n) w ≡ w 0 + total n (λ i. w (suc i))
unfolding total
total_first zero w = omega arith
total_first (suc n) w = omega (arith, total_first n w)

pub sum_total : (T : List ℕ) → sum T ≡ total (length T) (λ i. get_or T i 0)
unfolding sum total
sum_total [] = refl
sum_total (x ∷ T) = rw (sum_total T) (sym (total_first (length T) (λ i. get_or (x ∷ T) i 0)))

-- an entry more
entry_more : (b : List ℕ) (i : ℕ) → i < length b → sum (take (suc i) b) ≡ sum (take i b) + get_or b i 0
unfolding sum
entry_more [] i h = absurd (omega arith)
entry_more (x ∷ b) zero h = omega arith
entry_more (x ∷ b) (suc i) h = omega (arith, entry_more b i (omega arith))

-- Of the first entries: none, one more.
pub sum_none : (b : List ℕ) → 0 ≡ sum (take 0 b)
unfolding sum
sum_none b = refl

pub sum_more : (b : List ℕ) (i : ℕ) → i < length b → sum (take (i + 1) b) ≡ sum (take i b) + get_or b i 0
sum_more b i h = rw add-one (entry_more b i h)

-- What is taken from the front and what is left are the whole.
pub cut : {l a b : List ℕ} (n : ℕ) → a ≡ take n l → b ≡ drop n l → l ≡ a ++ b
cut {l} n front back = rw (front, back) (sym (take-append-drop n l))

-- Of two parts, one behind the other.
pub sum_parts : (a b : List ℕ) → sum (a ++ b) ≡ sum a + sum b
unfolding sum
sum_parts [] b = omega arith
sum_parts (x ∷ a) b = omega (arith, sum_parts a b)

pub bits_front : (a b : List ℕ) → Bits (a ++ b) → Bits a
unfolding Bits
bits_front [] b bits i = omega arith
bits_front (x ∷ a) b bits zero = bits zero
bits_front (x ∷ a) b bits (suc i) = bits_front a b (λ k. bits (suc k)) i

pub bits_back : (a b : List ℕ) → Bits (a ++ b) → Bits b
unfolding Bits
bits_back [] b bits = bits
bits_back (x ∷ a) b bits = bits_back a b (λ k. bits (suc k))

-- Of bits there are no more ones than entries.
pub sum_few : (b : List ℕ) → Bits b → sum b ≤ length b
unfolding sum Bits
sum_few [] bits = omega arith
sum_few (x ∷ b) bits = omega (arith, bits 0, sum_few b (λ k. bits (suc k)))

-- The sum of a full table is the total of its rows.
pub sum_rows : (T : List ℕ) → length T ≡ records * terms → sum T ≡ total records (λ r. total terms (view T r))
unfolding view
sum_rows T long = sum_total T ∙ rw long (total_rows records terms (λ i. get_or T i 0))
