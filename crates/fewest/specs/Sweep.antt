-- A sweep over a table: it reaches a table, tells whether it changed anything, and what holds where it changed nothing.
-- The order of work is never trusted: what a full sweep leaves unchanged is closed.
use Rattle.std.specs.Prelude.{ℕ, ◌+◌, ◌<◌, ◌≡◌, Bool, true, false, ◌⊎◌, List, [], ◌∷◌}

-- the sum of a table's entries, which falls with each change
unfoldable pub sum : List ℕ → ℕ
sum [] = 0
sum (x ∷ xs) = x + sum xs

-- T' is reached from T by R; `now` tells whether it or anything before it (`was`) changed; if nothing did, Q holds of T.
-- μ falls with each change.
pub record Swept {A : Type 0} (μ : A → ℕ) (R : A → A → Type 0) (Q : A → Type 0) (T T' : A) (was now : Bool) : Type 0 where
  pub reached : R T T'
  pub still : now ≡ false → (was ≡ false) × (T' ≡ T) × Q T
  pub falls : now ≡ true → (was ≡ true) ⊎ (μ T' < μ T)
