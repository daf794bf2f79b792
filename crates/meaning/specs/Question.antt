-- Questions, the work figure, the ends and the starts (document 01, "The work figure", "Lent tables").
-- A question is a subexpression, named by its record, and a term.
use Rattle.std.specs.Prelude.{ℕ, ◌≤◌, ◌≡◌, ◌⊎◌, ◌↔◌, length}
use mathlib.Core.List.{List, [], ◌∷◌, Memᴰ}
use Rattle.meaning.specs.Site.{Site}
use Rattle.meaning.specs.Move.{Move, any}
use Rattle.meaning.specs.Expression.{Expr, step, tested, sequence, choice, star}
use Rattle.meaning.specs.Relation.{Plus, Rel}

pub record Question : Type 0 where
  pub of : ℕ
  pub at : ℕ

abbrev pub question : ℕ → ℕ → Question
question r t = record { of = r; at = t }

-- what is asked once the expression is asked at t: itself there, and
-- a sequence: its first operand there, and its second at each term the first relates that term to;
-- a choice: both operands there;
-- a star: its operand there, and at each term reached from there by one or more rounds;
-- a tested step: its test at the middle of each triple that the axis can take from there
-- (a tested self: there, if the term is in the vocabulary, as self moves only there)
abbrev pub Asks : Site → Expr → ℕ → Question → Type 0
Asks s (step r a l) t q = q ≡ question r t
Asks s (tested r a x) t q = (q ≡ question r t) ⊎ ((k m u : ℕ) × Move s a any k t m u × Asks s x m q)
Asks s (sequence r a b) t q = (q ≡ question r t) ⊎ (Asks s a t q ⊎ ((m : ℕ) × Rel s a t m × Asks s b m q))
Asks s (choice r a b) t q = (q ≡ question r t) ⊎ (Asks s a t q ⊎ Asks s b t q)
Asks s (star r a) t q = (q ≡ question r t) ⊎ (Asks s a t q ⊎ ((m : ℕ) × Plus (Rel s a) t m × Asks s a m q))

-- no member stands twice
pub data Different {A : Type 0} : List A → Type 0 where
  empty : Different []
  more : {x : A} {l : List A} → (Memᴰ x l → ⊥) → Different l → Different (x ∷ l)

-- n is the number of different x with P
pub record Count {A : Type 0} (P : A → Type 0) (n : ℕ) : Type 0 where
  pub list : List A
  pub different : Different list
  pub exactly : (x : A) → Memᴰ x list ↔ P x
  pub long : length list ≡ n

-- b tells whether P: it is 1 just where P is so, and else 0
pub record Tells (P : Type 0) (b : ℕ) : Type 0 where
  pub bit : b ≤ 1
  pub exactly : (b ≡ 1) ↔ P

-- the work figure: the number of different questions asked once the whole rule is asked at the start
abbrev pub Figure : Site → Expr → ℕ → ℕ → Type 0
Figure s rule t n = Count (Asks s rule t) n

-- the ends of a start are the terms that the rule relates it to, and the starts of an end those that it relates to it
abbrev pub Ends : Site → Expr → ℕ → ℕ → Type 0
Ends s rule t u = Rel s rule t u

abbrev pub Starts : Site → Expr → ℕ → ℕ → Type 0
Starts s rule u t = Rel s rule t u
