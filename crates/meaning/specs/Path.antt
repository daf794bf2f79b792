-- Paths and what it is to conform (document 01, "Steps, bodies and paths").
-- A run is told by configurations: the term where one stands, and the steps that are still to be taken.
use Rattle.std.specs.Prelude.{ℕ, ◌≡◌, List, [], ◌∷◌, ◌⊎◌}
use Rattle.meaning.specs.Site.{Site, Voc}
use Rattle.meaning.specs.Move.{Move, any}
use Rattle.meaning.specs.Expression.{Expr, step, tested, sequence, choice, star}
use Rattle.meaning.specs.Relation.{Plus, Holds}

-- one step of a path: record number, triple number, term reached
pub record Taken : Type 0 where
  pub by : ℕ
  pub over : ℕ
  pub to : ℕ

abbrev pub Path : Type 0
Path = List Taken

pub record Config : Type 0 where
  pub term : ℕ
  pub steps : Path

abbrev pub at : ℕ → Path → Config
at t p = record { term = t; steps = p }

abbrev pub taken : ℕ → ℕ → ℕ → Taken
taken r k u = record { by = r; over = k; to = u }

-- the expression allows what is done between the two configurations; empty rounds only at vocabulary terms
abbrev pub Run : Site → Expr → Config → Config → Type 0
Run s (step r a l) c d = (k m : ℕ) × Move s a l k c.term m d.term × (c.steps ≡ taken r k d.term ∷ d.steps)
Run s (tested r a x) c d =
    (k m : ℕ) × Move s a any k c.term m d.term × Holds s x m × (c.steps ≡ taken r k d.term ∷ d.steps)
Run s (sequence r a b) c d = (i : Config) × Run s a c i × Run s b i d
Run s (choice r a b) c d = Run s a c d ⊎ Run s b c d
Run s (star r a) c d = (Voc s c.term × (c ≡ d)) ⊎ Plus (Run s a) c d

-- the path leads from t to u and conforms
abbrev pub Conforms : Site → Expr → ℕ → Path → ℕ → Type 0
Conforms s e t p u = Run s e (at t p) (at u [])
