-- A row of the number table told in bits: 1 where there is a number of steps, 0 where there is none.
-- The same record is a loop's progress: the bits below a bound are told.
use Rattle.std.specs.Prelude.{ℕ, ◌<◌, ◌≡◌, cond, List, length, get_or, ltb}
use Rattle.meaning.specs.Limits.{terms, none}
use Rattle.fewest.specs.Offer.{view}

unfoldable pub bit_of : ℕ → ℕ
bit_of v = cond (ltb v none) 1 0

-- the bits of row r below n
pub record Told (T : List ℕ) (r n : ℕ) (b : List ℕ) : Type 0 where
  pub long : length b ≡ terms
  pub each : (t : ℕ) → t < n → get_or b t 0 ≡ bit_of (view T r t)
