-- Cells of two bytes in the lent byte table, low byte first: a 16-bit number as the machine reads it.
use Rattle.std.specs.Prelude.{ℕ, ◌+◌, ◌*◌, ◌-◌, List}
use Rattle.records.specs.Bytes.{base}
use Rattle.fewest.specs.Pairs.{coupled}

-- how many values a cell has
abbrev pub values : ℕ
values = base * base

-- the value of a cell that names nothing
abbrev pub nothing : ℕ
nothing = values - 1

-- the values that the bytes hold, two bytes a value
unfoldable pub cells : List ℕ → List ℕ
cells b = coupled (λ (l h : ℕ). h * base + l) b
