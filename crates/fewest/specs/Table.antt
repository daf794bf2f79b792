-- The lent table as a whole, and what one try to lower an entry leaves.
-- A table is full when it has its entries, two bytes each.
use Rattle.std.specs.Prelude.{ℕ, ◌+◌, ◌*◌, ◌<◌, ◌≤◌, ◌≡◌, Bool, true, List, length, set}
use Rattle.meaning.specs.Limits.{terms, records}
use Rattle.fewest.specs.Offer.{place, view}

unfoldable pub Full : List ℕ → Type 0
Full b = length b ≡ records * terms + records * terms

-- the entry is v where that is lower, and the table else as it was
pub record Lowered (r t v : ℕ) (T T' : List ℕ) (was now : Bool) : Type 0 where
  pub lower : v < view T r t → (T' ≡ set T (place r t) v) × (now ≡ true)
  pub keep : view T r t ≤ v → (T' ≡ T) × (now ≡ was)
