-- The path that is shown: of the shortest the smallest (document 01, "Steps, bodies and paths").
-- Paths are compared step by step, by record number and then by triple number.
use Rattle.std.specs.Prelude.{◌<◌, ◌≤◌, ◌≡◌, ◌∷◌, ◌⊎◌, length}
use Rattle.meaning.specs.Path.{Path, Taken}

pub data Before : Path → Path → Type 0 where
  by_record : {x y : Taken} {p q : Path} → x.by < y.by → Before (x ∷ p) (y ∷ q)
  by_triple : {x y : Taken} {p q : Path} → x.by ≡ y.by → x.over < y.over → Before (x ∷ p) (y ∷ q)
  by_rest : {x y : Taken} {p q : Path} → x.by ≡ y.by → x.over ≡ y.over → Before p q → Before (x ∷ p) (y ∷ q)

-- p is the path shown among those with P: none is shorter, and it is the smallest of the shortest
pub record Shown (P : Path → Type 0) (p : Path) : Type 0 where
  pub conforms : P p
  pub shortest : (q : Path) → P q → length p ≤ length q
  pub smallest : (q : Path) → P q → length q ≡ length p → (p ≡ q) ⊎ Before p q
