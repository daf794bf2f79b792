-- That a site is accepted is one fact, so that a value may keep it: it has one proof at most.
use Rattle.std.specs.Prelude.{ℕ, ◌≡◌, List}
use Rattle.std.specs.Coded.{le_prop}
use Rattle.std.proofs.Props.{props}
use native.Mathlib.Omega.{arith}
use Rattle.meaning.specs.Site as meant
use Rattle.records.specs.Sites.{Above, by_subject, by_predicate, by_object, Accepted}

equal_once : (a b : ℕ) → IsProp (a ≡ b)
equal_once a b = Prim.hlevel props

-- one triple stands above another in one way: by the first number that differs
above_once : (x y : meant.Triple) → IsProp (Above x y)
above_once x y (by_subject p) (by_subject q) = λ i. by_subject (le_prop p q i)
above_once x y (by_subject p) (by_predicate e q) = absurd (omega arith)
above_once x y (by_subject p) (by_object e f q) = absurd (omega arith)
above_once x y (by_predicate e p) (by_subject q) = absurd (omega arith)
above_once x y (by_predicate e p) (by_predicate e' q) = λ i. by_predicate (equal_once _ _ e e' i) (le_prop p q i)
above_once x y (by_predicate e p) (by_object e' f q) = absurd (omega arith)
above_once x y (by_object e f p) (by_subject q) = absurd (omega arith)
above_once x y (by_object e f p) (by_predicate e' q) = absurd (omega arith)
above_once x y (by_object e f p) (by_object e' f' q) = λ i. by_object (equal_once _ _ e e' i) (equal_once _ _ f f' i) (le_prop p q i)

pub accepted_once : (s : List ℕ) (n : ℕ) → IsProp (Accepted s n)
accepted_once s n = Prim.hlevel (props, above_once)
