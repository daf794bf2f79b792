-- That the bits of the rule's own row are the starts.
-- A start relates to the end, and that is what the number table's finite entries say.
use Prim.Native.Nat.{ℕ, ◌<◌, ◌≤◌}
use mathlib.Core.Path.{◌≡◌, refl}
use mathlib.Core.Logic.{◌↔◌}
use mathlib.Core.Bool.{Bool, true, false, cond}
use native.Mathlib.Omega.{arith}
use lib.Dec.{ltb}
use borrow.Author.Tests.{ltb-true, ltb-false}
use Rattle.meaning.specs.Limits.{none}
use Rattle.fewest.specs.Told.{bit_of}

-- the bit is 1 exactly for a number of steps
pub bit_some : (v : ℕ) → (bit_of v ≤ 1) × ((bit_of v ≡ 1) ↔ (v < none))
unfolding bit_of
bit_some v = go (ltb v none) (ltb-true v none) (ltb-false v none)
  where
    go : (b : Bool) → (b ≡ true → v < none) → (b ≡ false → none ≤ v) → (cond {A = ℕ} b 1 0 ≤ 1) × ((◌≡◌ {A = ℕ} (cond b 1 0) 1) ↔ (v < none))
    go true f g = (omega arith, (λ e. f refl, λ l. refl))
    go false f g = let m = g refl in (omega arith, (λ e. absurd (omega arith), λ l. absurd (omega arith)))
