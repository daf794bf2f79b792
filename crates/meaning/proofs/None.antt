-- The laws of the number that stands for no path, and of numbers near one another.
-- Of its size they say only that it is above 0.
use Prim.Native.Nat.{ℕ, ◌<◌, min}
use mathlib.Core.Path.{◌≡◌, refl, sym, subst}
use mathlib.Core.Logic.{◌⊎◌, inl, inr}
use native.Mathlib.Omega.{arith}
use native.Mathlib.Decide.{dec_le}
use lib.Dec.{eqb, eqb→eq, lit<, T}
use borrow.Author.Tests.{eq-eqb}
use mathlib.Core.Bool.{Bool, true, false, cond}
use Rattle.meaning.specs.Limits.{none}
use Rattle.meaning.specs.Fewest.{Goal, end, anywhere, Meets}
use Rattle.meaning.specs.Left.{Near, home_left}

pub none_positive : 0 < none
unfolding none
none_positive = lit< tt

pub near_self : (x : ℕ) → Near 0 x x
near_self x h = (h, omega arith)

pub near_min_first : (x y : ℕ) → Near 0 (min x y) x
near_min_first x y h = (omega arith, omega arith)

pub near_min_second : (x y : ℕ) → Near 0 (min x y) y
near_min_second x y h = (omega arith, omega arith)

-- the smaller of two numbers is one of them
pub min_either : (x y : ℕ) → (min x y ≡ x) ⊎ (min x y ≡ y)
min_either x y = elim (dec_le x y) [ yes h ↦ inl (omega arith) | no h ↦ inr (omega arith) ]

-- nothing is left exactly where the goal is met
pub home_met : (g : Goal) (u : ℕ) → Meets g u → home_left g u ≡ 0
home_met (end v) u e = subst (λ b. cond b 0 none ≡ 0) (sym (eq-eqb u v e)) refl
home_met anywhere u e = refl

pub home_meets : (g : Goal) (u : ℕ) → home_left g u < none → Meets g u × (home_left g u ≡ 0)
home_meets (end v) u h = met (eqb u v) (λ t. eqb→eq u v t) h
  where
    met : (b : Bool) → (T b → u ≡ v) → cond b 0 none < none → (u ≡ v) × (cond b 0 none ≡ 0)
    met true f h = (f tt, refl)
    met false f h = absurd (omega arith)
home_meets anywhere u h = (tt, refl)
