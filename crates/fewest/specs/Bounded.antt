-- What keeps one step more than a number from reaching none: a number grows only where an entry that was none becomes one.
-- So every number, together with the entries that are still none, is at most the length of the table.
use Rattle.std.specs.Prelude.{ℕ, ◌+◌, ◌*◌, ◌<◌, ◌≤◌, ◌≡◌, cond, List, map, length, get_or, eqb}
use Rattle.meaning.specs.Limits.{terms, records, none}
use Rattle.fewest.specs.Sweep.{sum}

abbrev pub one_if_none : ℕ → ℕ
one_if_none x = cond (eqb x none) 1 0

-- how many entries are none
unfoldable pub nones : List ℕ → ℕ
nones T = sum (map one_if_none T)

pub record Bounded (T : List ℕ) : Type 0 where
  pub long : length T ≡ records * terms
  pub small : (i : ℕ) → i < length T → get_or T i 0 < none → get_or T i 0 + nones T ≤ length T
  pub top : (i : ℕ) → get_or T i 0 ≤ none
