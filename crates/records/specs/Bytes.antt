-- Numbers as they stand in bytes (document 01, "Records"): two bytes, high byte first.
-- The base of bytes is a name of its own: how many terms there are may change, a byte may not.
use Rattle.std.specs.Prelude.{ℕ, ◌+◌, ◌*◌, List, get_or}

abbrev pub base : ℕ
base = 256

-- how many numbers two bytes can be, and four
abbrev pub two_bytes : ℕ
two_bytes = base * base

abbrev pub four_bytes : ℕ
four_bytes = two_bytes * two_bytes

-- the two bytes at a place, high byte first
unfoldable pub number16 : List ℕ → ℕ → ℕ
number16 s at = get_or s at 0 * base + get_or s (at + 1) 0

-- the four bytes at a place, and the eight
unfoldable pub number32 : List ℕ → ℕ → ℕ
number32 s at = number16 s at * two_bytes + number16 s (at + 2)

unfoldable pub number64 : List ℕ → ℕ → ℕ
number64 s at = number32 s at * four_bytes + number32 s (at + 4)
