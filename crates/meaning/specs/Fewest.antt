-- The number table (document 01, "Lent tables"): the fewest steps from entering a subexpression to finishing its body.
-- One picture: a subexpression is entered at a term and finished at a term, and a way leads from there through its body.
use Rattle.std.specs.Prelude.{ℕ, ◌<◌, ◌≤◌, ◌≡◌, [], ◌∷◌, length}
use Rattle.meaning.specs.Limits.{terms, none}
use Rattle.meaning.specs.Site.{Site, Voc}
use Rattle.meaning.specs.Move.{Move, Axis, Label, any}
use Rattle.meaning.specs.Expression.{Expr, step, tested, sequence, choice, star, last, Context, whole, test, first_of, second_of, one_of, other_of, round_of, plug}
use Rattle.meaning.specs.Path.{Path, taken}

-- where the rule's own body may finish: at the query's end, or anywhere
pub data Goal : Type 0 where
  end : ℕ → Goal
  anywhere : Goal

abbrev pub Meets : Goal → ℕ → Type 0
Meets (end v) u = u ≡ v
Meets anywhere u = Unit

pub data State : Type 0 where
  entered : Expr → Context → ℕ → State
  finished : Expr → Context → ℕ → State

-- what costs no step. A star's operand, once done, may run again or let the star end.
pub data Free (s : Site) : State → State → Type 0 where
  sequence_in : {r : ℕ} {a b : Expr} {K : Context} {t : ℕ} → Free s (entered (sequence r a b) K t) (entered a (first_of r b K) t)
  sequence_on : {r : ℕ} {a b : Expr} {K : Context} {u : ℕ} → Free s (finished a (first_of r b K) u) (entered b (second_of r a K) u)
  sequence_out : {r : ℕ} {a b : Expr} {K : Context} {u : ℕ} → Free s (finished b (second_of r a K) u) (finished (sequence r a b) K u)
  one_in : {r : ℕ} {a b : Expr} {K : Context} {t : ℕ} → Free s (entered (choice r a b) K t) (entered a (one_of r b K) t)
  one_out : {r : ℕ} {a b : Expr} {K : Context} {u : ℕ} → Free s (finished a (one_of r b K) u) (finished (choice r a b) K u)
  other_in : {r : ℕ} {a b : Expr} {K : Context} {t : ℕ} → Free s (entered (choice r a b) K t) (entered b (other_of r a K) t)
  other_out : {r : ℕ} {a b : Expr} {K : Context} {u : ℕ} → Free s (finished b (other_of r a K) u) (finished (choice r a b) K u)
  round_in : {r : ℕ} {a : Expr} {K : Context} {t : ℕ} → Free s (entered (star r a) K t) (entered a (round_of r K) t)
  round_empty : {r : ℕ} {a : Expr} {K : Context} {t : ℕ} → Voc s t → Free s (entered (star r a) K t) (finished (star r a) K t)
  round_again : {r : ℕ} {a : Expr} {K : Context} {u : ℕ} → Free s (finished a (round_of r K) u) (entered a (round_of r K) u)
  round_out : {r : ℕ} {a : Expr} {K : Context} {u : ℕ} → Free s (finished a (round_of r K) u) (finished (star r a) K u)

-- a path from the state to the finish of its body; the steps inside a test do not count
pub data Way (s : Site) (g : Goal) : State → Path → Type 0 where
  home : {e : Expr} {u : ℕ} → Meets g u → Way s g (finished e whole u) []
  held : {e : Expr} {r : ℕ} {a : Axis} {K : Context} {u : ℕ} → Way s g (finished e (test r a K) u) []
  free : {x y : State} {p : Path} → Free s x y → Way s g y p → Way s g x p
  by_step : {r : ℕ} {a : Axis} {l : Label} {K : Context} {k t m u : ℕ} {p : Path} → Move s a l k t m u →
      Way s g (finished (step r a l) K u) p → Way s g (entered (step r a l) K t) (taken r k u ∷ p)
  by_test : {r : ℕ} {a : Axis} {x : Expr} {K : Context} {k t m u : ℕ} {p q : Path} → Move s a any k t m u →
      Way s g (entered x (test r a K) m) q →
      Way s g (finished (tested r a x) K u) p → Way s g (entered (tested r a x) K t) (taken r k u ∷ p)

-- n is the fewest steps of a path with P, or none where there is no such path
pub data Fewest (P : Path → Type 0) (n : ℕ) : Type 0 where
  attained : (p : Path) → P p → length p ≡ n → n < none → ((q : Path) → P q → n ≤ length q) → Fewest P n
  never : n ≡ none → ((p : Path) → P p → ⊥) → Fewest P n

-- the number table's rows by record and places by term: at each subexpression of the rule and each term its number
unfoldable pub Numbers : Site → Goal → Expr → (ℕ → ℕ → ℕ) → Type 0
Numbers s g rule n =
    (e : Expr) (K : Context) → plug e K ≡ rule → (t : ℕ) → t < terms → Fewest (Way s g (entered e K t)) (n (last e) t)
