-- What a yes or a no tells, taken from it and given to it.
use Prim.Native.Nat.{ℕ}
use mathlib.Core.Path.{◌≡◌, refl}
use mathlib.Core.Bool.{Bool, true, false}
use native.Mathlib.Omega.{arith}
use Rattle.fewest.specs.Tells.{Tells, holds, fails}

module _ {A : Type 0} where
  pub told : {b : Bool} → Tells A b → b ≡ true → A
  told (holds a) e = a
  told (fails n) e = let z : ◌≡◌ {A = ℕ} 0 1 = cc in absurd (omega arith)

  pub told_not : {b : Bool} → Tells A b → b ≡ false → A → ⊥
  told_not (holds a) e = let z : ◌≡◌ {A = ℕ} 0 1 = cc in absurd (omega arith)
  told_not (fails n) e = n

  pub tells : {b : Bool} → Tells A b → A → b ≡ true
  tells (holds a) x = refl
  tells (fails n) x = absurd (n x)
