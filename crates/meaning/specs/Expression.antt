-- Rules as records in postfix order, and the expressions that they are (document 01, "Records").
-- Each node of an expression carries the number of its last record, by which the subexpression is named.
use Rattle.std.specs.Prelude.{ℕ, ◌+◌, ◌-◌, ◌≤◌, ◌≡◌, List, [], ◌∷◌, ◌++◌}
use Rattle.meaning.specs.Move.{Axis, Label}

-- the records of a rule, kinds 1 and 2 (a step), 3 (a tested step), 4, 5 and 6
pub data Rec : Type 0 where
  plain : Axis → Label → Rec
  testing : Axis → Rec
  joining : Rec
  choosing : Rec
  starring : Rec

pub data Expr : Type 0 where
  step : ℕ → Axis → Label → Expr
  tested : ℕ → Axis → Expr → Expr
  sequence : ℕ → Expr → Expr → Expr
  choice : ℕ → Expr → Expr → Expr
  star : ℕ → Expr → Expr

-- a subexpression is named by its last record
abbrev pub last : Expr → ℕ
last (step r a l) = r
last (tested r a x) = r
last (sequence r a b) = r
last (choice r a b) = r
last (star r a) = r

-- the first record of an expression is found through its first operand's; a plain or named step is its own first
abbrev pub first : Expr → ℕ
first (step r a l) = r
first (tested r a x) = first x
first (sequence r a b) = first a
first (choice r a b) = first a
first (star r a) = first a

-- its records, in postfix order
abbrev pub postfix : Expr → List Rec
postfix (step r a l) = plain a l ∷ []
postfix (tested r a x) = postfix x ++ (testing a ∷ [])
postfix (sequence r a b) = postfix a ++ postfix b ++ (joining ∷ [])
postfix (choice r a b) = postfix a ++ postfix b ++ (choosing ∷ [])
postfix (star r a) = postfix a ++ (starring ∷ [])

-- how many records it has
abbrev pub size : Expr → ℕ
size (step r a l) = 1
size (tested r a x) = size x + 1
size (sequence r a b) = size a + size b + 1
size (choice r a b) = size a + size b + 1
size (star r a) = size a + 1

-- its records are numbered one by one, and n stands before the first
abbrev pub Numbered : ℕ → Expr → Type 0
Numbered n (step r a l) = r ≡ n
Numbered n (tested r a x) = Numbered n x × (r ≡ n + size x)
Numbered n (sequence r a b) = Numbered n a × Numbered (n + size a) b × (r ≡ n + size a + size b)
Numbered n (choice r a b) = Numbered n a × Numbered (n + size a) b × (r ≡ n + size a + size b)
Numbered n (star r a) = Numbered n a × (r ≡ n + size a)

-- these records are this expression
pub record Expression (rs : List Rec) (e : Expr) : Type 0 where
  pub order : postfix e ≡ rs
  pub numbered : Numbered 0 e

-- how many of the expressions before it a record takes; it leaves one in their place
abbrev pub operands : Rec → ℕ
operands (plain a l) = 0
operands (testing a) = 1
operands joining = 2
operands choosing = 2
operands starring = 1

-- reading the records after m expressions leaves n, and no record finds too few before it
pub data Leaves : ℕ → List Rec → ℕ → Type 0 where
  all_read : {n : ℕ} → Leaves n [] n
  one_more : {m n : ℕ} {r : Rec} {rs : List Rec} → operands r ≤ m → Leaves (m - operands r + 1) rs n → Leaves m (r ∷ rs) n

-- Where a subexpression stands: the whole rule; the test of a step; the first or second of a sequence; one operand
-- of a choice or the other; the round of a star. What stands around it is held, the record number of its parent first.
pub data Context : Type 0 where
  whole : Context
  test : ℕ → Axis → Context → Context
  first_of : ℕ → Expr → Context → Context
  second_of : ℕ → Expr → Context → Context
  one_of : ℕ → Expr → Context → Context
  other_of : ℕ → Expr → Context → Context
  round_of : ℕ → Context → Context

-- the rule in which e stands so
abbrev pub plug : Expr → Context → Expr
plug e whole = e
plug e (test r a K) = plug (tested r a e) K
plug e (first_of r b K) = plug (sequence r e b) K
plug e (second_of r a K) = plug (sequence r a e) K
plug e (one_of r b K) = plug (choice r e b) K
plug e (other_of r a K) = plug (choice r a e) K
plug e (round_of r K) = plug (star r e) K
