-- Numbers in bytes: two bytes are below what two bytes can be, and eight are four times two.
-- A number whose high byte is 0 is its low byte, which is the high byte of the number at the next place.
use Prim.Native.Nat.{ℕ, ◌+◌, ◌*◌, ◌/◌, ◌%◌, ◌<◌}
use native.Mathlib.Omega.{arith}
use mathlib.Core.Path.{◌≡◌}
use mathlib.Core.List.{List}
use lib.ListN.{get_or}
use Rattle.records.specs.Bytes.{base, two_bytes, four_bytes, number16, number32, number64}

-- each is a byte
abbrev pub AllBytes : List ℕ → Type 0
AllBytes s = (i : ℕ) → get_or s i 0 < base

pub two_fit : (s : List ℕ) (at : ℕ) → AllBytes s → number16 s at < two_bytes
unfolding number16
two_fit s at bytes = omega (arith, bytes at, bytes (at + 1))

pub eight_twos : (s : List ℕ) (at : ℕ) → number64 s at
    ≡ (number16 s at * two_bytes + number16 s (at + 2)) * four_bytes + (number16 s (at + 4) * two_bytes + number16 s (at + 6))
unfolding number64 number32
eight_twos s at = let six : at + 4 + 2 ≡ at + 6 = omega arith in rw six

-- the number at j, between those at the places before and after
pub low_alone : (s : List ℕ) (i j k : ℕ) → AllBytes s → j ≡ i + 1 → k ≡ j + 1 → number16 s i % base ≡ 0 →
    (number16 s j < base) × (number16 s k / base ≡ number16 s j)
unfolding number16
low_alone s i j k bytes ej ek zero =
    let high : get_or s (i + 1) 0 ≡ get_or s j 0 = rw ej in
    let low : get_or s (j + 1) 0 ≡ get_or s k 0 = rw ek in
    (omega (arith, bytes j, bytes (j + 1)), omega (arith, bytes j, bytes (j + 1), bytes (k + 1)))
