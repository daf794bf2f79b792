-- What each lent table holds after an answer (document 01, "Lent tables").
-- A table is given by its list of numbers; a number table of the C form by its pairs of bytes.
use Rattle.std.specs.Prelude.{ℕ, ◌*◌, ◌<◌, ◌≤◌, ◌≡◌, List, [], ◌∷◌, length, get_or}
use Rattle.meaning.specs.Limits.{terms, records, none}
use Rattle.meaning.specs.Site.{Site}
use Rattle.meaning.specs.Expression.{Expr, size}
use Rattle.meaning.specs.Path.{Path}
use Rattle.meaning.specs.Fewest.{Goal, Numbers}
use Rattle.meaning.specs.Question.{question, Asks, Tells}
use Rattle.fewest.specs.Offer.{view}

-- 1 at each term with P and 0 elsewhere
pub record TermTable (P : ℕ → Type 0) (b : List ℕ) : Type 0 where
  pub long : length b ≡ terms
  pub tells : (u : ℕ) → u < terms → Tells (P u) (get_or b u 0)

-- 1 for each question asked and 0 elsewhere, unused rows included
pub record QuestionTable (s : Site) (rule : Expr) (z : ℕ) (b : List ℕ) : Type 0 where
  pub long : length b ≡ records * terms
  pub tells : (r t : ℕ) → r < records → t < terms → Tells (Asks s rule z (question r t)) (view b r t)

-- the fewest steps for each record of the rule and every term; none in unused rows
pub record NumberTable (s : Site) (g : Goal) (rule : Expr) (b : List ℕ) : Type 0 where
  pub long : length b ≡ records * terms
  pub numbers : Numbers s g rule (view b)
  pub unused : (r t : ℕ) → size rule ≤ r → r < records → t < terms → view b r t ≡ none

-- a path as it is written: record number, triple number and term reached of each step
abbrev pub written : Path → List ℕ
written [] = []
written (x ∷ p) = x.by ∷ (x.over ∷ (x.to ∷ written p))
