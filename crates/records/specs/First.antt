-- The first record of an expression, named by its last (document 01, "Records").
-- It is found through the first operand's; a plain or named step is its own first.
use Rattle.std.specs.Prelude.{ℕ, ◌-◌, ◌≤◌, ◌<◌, ◌≡◌, List, length, get_or}
use Rattle.meaning.specs.Expression.{Rec, starring, operands}

-- how many expressions the record with this number takes
abbrev pub taken : List Rec → ℕ → ℕ
taken rs r = operands (get_or rs r starring)

-- the first record of the expression that ends with record r: a record that takes none is its own; of one that takes
-- one, it is the operand's, which ends just before it; of two, the first operand ends just before the second begins
pub data First (rs : List Rec) : ℕ → ℕ → Type 0 where
  own : {r : ℕ} → r < length rs → taken rs r ≡ 0 → First rs r r
  of_one : {r f : ℕ} → r < length rs → taken rs r ≡ 1 → 0 < r → First rs (r - 1) f → First rs r f
  of_two : {r f : ℕ} (second : ℕ) → r < length rs → taken rs r ≡ 2 → 0 < r → First rs (r - 1) second → 0 < second →
      First rs (second - 1) f → First rs r f

-- an expression ends with this record
abbrev pub Ends : List Rec → ℕ → Type 0
Ends rs r = (f : ℕ) × First rs r f

-- the expression that ends with record r stands inside the one that ends with `last`, and has the same first record
pub record Inside (rs : List Rec) (last r : ℕ) : Type 0 where
  pub before : r ≤ last
  pub ends : Ends rs r
  pub same : (f : ℕ) → First rs r f → First rs last f
