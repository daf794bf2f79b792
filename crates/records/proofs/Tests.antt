-- What is picked by a test has a property if both cases have it, each where the test says so.
-- With it a definition by nested tests is taken apart in the order in which it is written.
use mathlib.Core.Path.{◌≡◌, refl}
use mathlib.Core.Bool.{Bool, true, false, cond}

pub by_test : {A : Type 0} (P : A → Type 0) (t : Bool) {a b : A} → (t ≡ true → P a) → (t ≡ false → P b) → P (cond t a b)
by_test P true yea nay = yea refl
by_test P false yea nay = nay refl
