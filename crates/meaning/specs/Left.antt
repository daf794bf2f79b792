-- What is left once a subexpression is finished, read off a table of numbers, and the two marks of a right table:
-- it is sound, and it is closed. No promise cites these; that a sound and closed table is the number table is proved.
use Rattle.std.specs.Prelude.{ℕ, ◌+◌, ◌<◌, ◌≤◌, min, ◌≡◌, cond, length, eqb}
use Rattle.meaning.specs.Limits.{terms, none}
use Rattle.meaning.specs.Site.{Site, Voc}
use Rattle.meaning.specs.Move.{Move, Axis, Label, any}
use Rattle.meaning.specs.Expression.{Expr, step, tested, sequence, choice, star, last, Context, whole, test, first_of, second_of, one_of, other_of, round_of, plug}
use Rattle.meaning.specs.Path.{Path}
use Rattle.meaning.specs.Fewest.{Goal, end, anywhere, State, entered, finished, Way}

-- a table of numbers: row by record, place by term
abbrev pub Table : Type 0
Table = ℕ → ℕ → ℕ

-- at the rule's own finish: nothing is left where the goal allows the term
abbrev pub home_left : Goal → ℕ → ℕ
home_left (end v) u = cond (eqb u v) 0 none
home_left anywhere u = 0

-- a star's operand, once done, may run again or let the star end; never the star's own number, which is none where
-- the star may end but not pass empty
abbrev pub left : Table → Goal → Expr → Context → ℕ → ℕ
left n g e whole u = home_left g u
left n g e (test r a K) u = 0
left n g e (first_of r b K) u = n (last b) u
left n g e (second_of r a K) u = left n g (sequence r a e) K u
left n g e (one_of r b K) u = left n g (choice r e b) K u
left n g e (other_of r a K) u = left n g (choice r a e) K u
left n g e (round_of r K) u = min (n (last e) u) (left n g (star r e) K u)

-- the number of a state
abbrev pub value : Table → Goal → State → ℕ
value n g (entered e K t) = n (last e) t
value n g (finished e K u) = left n g e K u

-- where y is a number of steps, x is one and at most d more
abbrev pub Near : ℕ → ℕ → ℕ → Type 0
Near d x y = y < none → (x < none) × (x ≤ d + y)

-- a way of this length leads from the state
abbrev pub Leads : Site → Goal → State → ℕ → Type 0
Leads s g x n = (p : Path) × Way s g x p × (length p ≡ n)

-- each number below none has its way
pub record Sound (s : Site) (g : Goal) (rule : Expr) (n : Table) : Type 0 where
  pub leads : (e : Expr) (K : Context) → plug e K ≡ rule → (t : ℕ) → t < terms → n (last e) t < none → Leads s g (entered e K t) (n (last e) t)

-- no number is larger than a neighbour's allows
pub record Closed (s : Site) (g : Goal) (rule : Expr) (n : Table) : Type 0 where
  pub by_step : (r : ℕ) (a : Axis) (l : Label) (K : Context) → plug (step r a l) K ≡ rule →
      (k t m u : ℕ) → t < terms → Move s a l k t m u → Near 1 (n r t) (left n g (step r a l) K u)
  pub by_test : (r : ℕ) (a : Axis) (x : Expr) (K : Context) → plug (tested r a x) K ≡ rule →
      (k t m u : ℕ) → t < terms → Move s a any k t m u → n (last x) m < none → Near 1 (n r t) (left n g (tested r a x) K u)
  pub sequence_in : (r : ℕ) (a b : Expr) (K : Context) → plug (sequence r a b) K ≡ rule → (t : ℕ) → t < terms → Near 0 (n r t) (n (last a) t)
  pub one_in : (r : ℕ) (a b : Expr) (K : Context) → plug (choice r a b) K ≡ rule → (t : ℕ) → t < terms → Near 0 (n r t) (n (last a) t)
  pub other_in : (r : ℕ) (a b : Expr) (K : Context) → plug (choice r a b) K ≡ rule → (t : ℕ) → t < terms → Near 0 (n r t) (n (last b) t)
  pub round_in : (r : ℕ) (a : Expr) (K : Context) → plug (star r a) K ≡ rule → (t : ℕ) → t < terms → Near 0 (n r t) (n (last a) t)
  pub round_empty : (r : ℕ) (a : Expr) (K : Context) → plug (star r a) K ≡ rule → (t : ℕ) → t < terms → Voc s t → Near 0 (n r t) (left n g (star r a) K t)
