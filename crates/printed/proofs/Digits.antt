-- A number in decimal: by its tenth and its last digit, how many digits it has at most, and that the library writes it so.
use Prim.Native.Nat.{ℕ, zero, suc, ◌+◌, ◌*◌, ◌/◌, ◌%◌, ◌^◌, ◌<◌, ◌≤◌}
use mathlib.Core.Path.{◌≡◌, ap, sym, ◌∙◌}
use mathlib.Core.List.{[], ◌∷◌, ◌++◌}
use native.Mathlib.Decide.{dec_lt}
use native.Mathlib.Nat.{pow-suc}
use native.Mathlib.Omega.{arith}
use borrow.Author.Tests.{lt-ltb, le-ltb}
use lib.ListN.{length, length-append}
use Rattle.std.specs.Fmt as std
use Rattle.std.proofs.Common.{rules}
use Rattle.std.proofs.lemmas.Fmt.{decimal_from_appends, length-decimal-le_succ}
use Rattle.printed.specs.Lines.{digit, last_digits, decimal}

-- the last digits of a number below 10, and of another
last_small : (k n : ℕ) → n < 10 → last_digits (suc k) n ≡ digit n ∷ []
unfolding last_digits
last_small k n h = simp (lt-ltb n 10 h)

last_more : (k n : ℕ) → 10 ≤ n → last_digits (suc k) n ≡ last_digits k (n / 10) ++ (digit (n % 10) ∷ [])
unfolding last_digits
last_more k n h = simp (le-ltb n 10 h)

-- as many as it has are all of them
last_enough : (k j n : ℕ) → n < k → n < j → last_digits k n ≡ last_digits j n
last_enough zero j n h i = absurd (omega arith)
last_enough (suc k) zero n h i = absurd (omega arith)
last_enough (suc k) (suc j) n h i = elim (dec_lt n 10) [
  | yes small ↦ last_small k n small ∙ sym (last_small j n small)
  | no large ↦ let far : 10 ≤ n = omega arith in last_more k n far ∙ ap (λ l. l ++ (digit (n % 10) ∷ [])) (last_enough k j (n / 10) (omega arith) (omega arith)) ∙ sym (last_more j n far)
]

-- A number below 10 is one digit; another is its tenth and its last digit.
pub decimal_small : (n : ℕ) → n < 10 → decimal n ≡ digit n ∷ []
unfolding decimal
decimal_small n h = last_small n n h

pub decimal_more : (n : ℕ) → 10 ≤ n → decimal n ≡ decimal (n / 10) ++ (digit (n % 10) ∷ [])
unfolding decimal
decimal_more n h = last_more n n h ∙ ap (λ l. l ++ (digit (n % 10) ∷ [])) (last_enough n (suc (n / 10)) (n / 10) (omega arith) (omega arith))

-- a number below a power of ten has no more digits
last_few : (j k n : ℕ) → n < 10 ^ suc k → length (last_digits j n) ≤ suc k
unfolding last_digits
last_few zero k n h = omega arith
last_few (suc j) k n h = elim (dec_lt n 10) [
  | yes small ↦ rw (last_small j n small) (omega arith)
  | no large ↦ longer j k n (omega arith) h (last_few j)
]
  where
    longer : (j k n : ℕ) → 10 ≤ n → n < 10 ^ suc k → ((k n : ℕ) → n < 10 ^ suc k → length (last_digits j n) ≤ suc k) → length (last_digits (suc j) n) ≤ suc k
    longer j zero n far h before = absurd (omega arith)
    longer j (suc k) n far h before =
        let low : n < 10 ^ suc k * 10 = rw (← pow-suc 10 (suc k)) h in
        rw (last_more j n far, length-append) (omega (arith, before k (n / 10) (omega arith)))

pub decimal_few : (k n : ℕ) → n < 10 ^ suc k → length (decimal n) ≤ suc k
unfolding decimal
decimal_few k n h = last_few (suc n) k n h

-- so a number that is no digit is one longer than its tenth
pub decimal_longer : (n : ℕ) → 10 ≤ n → length (decimal n) ≡ length (decimal (n / 10)) + 1
decimal_longer n h = rw (decimal_more n h) (length-append (decimal (n / 10)) (digit (n % 10) ∷ []))

-- The library writes a number as `decimal` has it.
pub decimal_std : (n : ℕ) → n < 2 ^ 64 → decimal n ≡ std.decimal n
unfolding decimal last_digits
decimal_std n h = decimal_from_appends last_digits (search rules) (suc n) n h (omega (arith, length-decimal-le_succ n h))
