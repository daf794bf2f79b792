-- The relation that document 01 gives to an expression ("The relation").
-- One or more rounds is a closure over any relation; the paths use it too.
use Rattle.std.specs.Prelude.{ℕ, ◌≡◌, ◌⊎◌}
use Rattle.meaning.specs.Site.{Site, Voc}
use Rattle.meaning.specs.Move.{Move, any}
use Rattle.meaning.specs.Expression.{Expr, step, tested, sequence, choice, star}

-- one or more rounds of R
pub data Plus {A : Type 0} (R : A → A → Type 0) : A → A → Type 0 where
  once : {x y : A} → R x y → Plus R x y
  then : {x y z : A} → R x y → Plus R y z → Plus R x z

-- the expression relates t to u
abbrev pub Rel : Site → Expr → ℕ → ℕ → Type 0
Rel s (step r a l) t u = (k m : ℕ) × Move s a l k t m u
Rel s (tested r a x) t u = (k m : ℕ) × Move s a any k t m u × ((v : ℕ) × Rel s x m v)
Rel s (sequence r a b) t u = (m : ℕ) × Rel s a t m × Rel s b m u
Rel s (choice r a b) t u = Rel s a t u ⊎ Rel s b t u
Rel s (star r a) t u = (Voc s t × (t ≡ u)) ⊎ Plus (Rel s a) t u

-- the test holds at a term: its expression relates the term to some term
abbrev pub Holds : Site → Expr → ℕ → Type 0
Holds s x m = (v : ℕ) × Rel s x m v
