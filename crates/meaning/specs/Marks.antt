-- Where a subexpression is asked, told by its context, and the two marks of a right byte table: sound and closed.
-- No promise cites these; that the context's reading is document 01's, and that such a table is right, is proved.
use Rattle.std.specs.Prelude.{ℕ, ◌<◌, ◌≡◌, ◌⊎◌}
use Rattle.meaning.specs.Limits.{terms}
use Rattle.meaning.specs.Site.{Site, Voc}
use Rattle.meaning.specs.Move.{Move, Axis, Label, any}
use Rattle.meaning.specs.Expression.{Expr, step, tested, sequence, choice, star, last, Context, whole, test, first_of, second_of, one_of, other_of, round_of, plug}
use Rattle.meaning.specs.Relation.{Plus, Rel, Holds}
use Rattle.meaning.specs.Fewest.{State, entered, finished}
use Rattle.meaning.specs.Left.{Table}
use Rattle.meaning.specs.Question.{question, Asks}

-- e, standing in K, is asked at t, where the whole rule is asked at z
abbrev pub Asked : Site → ℕ → Expr → Context → ℕ → Type 0
Asked s z e whole t = t ≡ z
Asked s z e (test r a K) m = (k t u : ℕ) × Move s a any k t m u × Asked s z (tested r a e) K t
Asked s z e (first_of r b K) t = Asked s z (sequence r e b) K t
Asked s z e (second_of r a K) m = (t : ℕ) × Asked s z (sequence r a e) K t × Rel s a t m
Asked s z e (one_of r b K) t = Asked s z (choice r e b) K t
Asked s z e (other_of r a K) t = Asked s z (choice r a e) K t
Asked s z e (round_of r K) t = Asked s z (star r e) K t ⊎ ((i : ℕ) × Asked s z (star r e) K i × Plus (Rel s e) i t)

-- e is done at u: it is asked at a term that it relates to u
abbrev pub Done : Site → ℕ → Expr → Context → ℕ → Type 0
Done s z e K u = (t : ℕ) × Asked s z e K t × Rel s e t u

-- the walk from the whole rule at z comes by this state
abbrev pub Here : Site → ℕ → State → Type 0
Here s z (entered e K t) = Asked s z e K t
Here s z (finished e K u) = Done s z e K u

-- once e is done at u, what follows it is marked there; at the rule's own finish that is the end u
abbrev pub Follows : Table → (ℕ → ℕ) → Expr → Context → ℕ → Type 0
Follows m ends e whole u = ends u ≡ 1
Follows m ends e (test r a K) u = Unit
Follows m ends e (first_of r b K) u = m (last b) u ≡ 1
Follows m ends e (second_of r a K) u = Follows m ends (sequence r a e) K u
Follows m ends e (one_of r b K) u = Follows m ends (choice r e b) K u
Follows m ends e (other_of r a K) u = Follows m ends (choice r a e) K u
Follows m ends e (round_of r K) u = (m (last e) u ≡ 1) × Follows m ends (star r e) K u

-- each mark is a question that is asked
pub record Justified (s : Site) (z : ℕ) (rule : Expr) (m : Table) : Type 0 where
  pub asked : (r t : ℕ) → t < terms → m r t ≡ 1 → Asks s rule z (question r t)

-- to each marked end the rule relates the start
pub record Arrived (s : Site) (z : ℕ) (rule : Expr) (ends : ℕ → ℕ) : Type 0 where
  pub related : (u : ℕ) → u < terms → ends u ≡ 1 → Rel s rule z u

-- what a mark asks is marked
pub record Followed (s : Site) (z : ℕ) (rule : Expr) (m : Table) (ends : ℕ → ℕ) : Type 0 where
  pub begun : m (last rule) z ≡ 1
  pub by_step : (r : ℕ) (a : Axis) (l : Label) (K : Context) → plug (step r a l) K ≡ rule →
      (k t i u : ℕ) → t < terms → m r t ≡ 1 → Move s a l k t i u → Follows m ends (step r a l) K u
  pub test_in : (r : ℕ) (a : Axis) (x : Expr) (K : Context) → plug (tested r a x) K ≡ rule →
      (k t i u : ℕ) → t < terms → m r t ≡ 1 → Move s a any k t i u → m (last x) i ≡ 1
  pub by_test : (r : ℕ) (a : Axis) (x : Expr) (K : Context) → plug (tested r a x) K ≡ rule →
      (k t i u : ℕ) → t < terms → m r t ≡ 1 → Move s a any k t i u → Holds s x i → Follows m ends (tested r a x) K u
  pub sequence_in : (r : ℕ) (a b : Expr) (K : Context) → plug (sequence r a b) K ≡ rule → (t : ℕ) → t < terms → m r t ≡ 1 → m (last a) t ≡ 1
  pub one_in : (r : ℕ) (a b : Expr) (K : Context) → plug (choice r a b) K ≡ rule → (t : ℕ) → t < terms → m r t ≡ 1 → m (last a) t ≡ 1
  pub other_in : (r : ℕ) (a b : Expr) (K : Context) → plug (choice r a b) K ≡ rule → (t : ℕ) → t < terms → m r t ≡ 1 → m (last b) t ≡ 1
  pub round_in : (r : ℕ) (a : Expr) (K : Context) → plug (star r a) K ≡ rule → (t : ℕ) → t < terms → m r t ≡ 1 → m (last a) t ≡ 1
  pub round_empty : (r : ℕ) (a : Expr) (K : Context) → plug (star r a) K ≡ rule → (t : ℕ) → t < terms → m r t ≡ 1 → Voc s t → Follows m ends (star r a) K t
