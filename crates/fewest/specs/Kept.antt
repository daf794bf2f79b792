-- What the levels leave of scratch: they store in free cells alone, so the threads before those stay.
use Rattle.std.specs.Prelude.{ℕ, ◌<◌, ◌≡◌, List, length, get_or}
use Rattle.fewest.specs.Cells.{cells}
use Rattle.fewest.specs.Threads.{free}

-- the cells before the free ones are as they were
abbrev pub Below : List ℕ → List ℕ → Type 0
Below X Y = (i : ℕ) → i < free → get_or (cells Y) i 0 ≡ get_or (cells X) i 0

-- and so is the length
pub record Kept (X Y : List ℕ) : Type 0 where
  pub long : length Y ≡ length X
  pub same : Below X Y
