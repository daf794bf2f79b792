-- A record number names one subexpression in one place (document 01, "Records").
-- The nodes of a rule are listed in postfix order: a node is named by its place in that list.
use Prim.Native.Nat.{ℕ, ◌+◌, ◌≤◌, ◌<◌}
use mathlib.Core.Path.{◌≡◌, refl, sym, ap, ◌∙◌}
use mathlib.Core.List.{List, [], ◌∷◌, ◌++◌, append_assoc, append-nil}
use native.Mathlib.Decide.{dec_le, dec_lt}
use native.Mathlib.Omega.{arith}
use lib.ListN.{length, get_or, length-append}
use lib.Seq.{get_or_at}
use Rattle.meaning.specs.Expression.{
  Expr,
  step,
  tested,
  sequence,
  choice,
  star,
  last,
  first,
  size,
  Numbered,
  Context,
  whole,
  test,
  first_of,
  second_of,
  one_of,
  other_of,
  round_of,
  plug,
}

-- an expression has a record
pub size_positive : (e : Expr) → 0 < size e
size_positive (step r a l) = omega arith
size_positive (tested r a x) = omega arith
size_positive (sequence r a b) = omega arith
size_positive (choice r a b) = omega arith
size_positive (star r a) = omega arith

-- the number that stands before the records is the first record's
pub first_number : (n : ℕ) (e : Expr) → Numbered n e → first e ≡ n
first_number n (step r a l) h = h
first_number n (tested r a x) h = first_number n x h.0
first_number n (sequence r a b) h = first_number n a h.0
first_number n (choice r a b) h = first_number n a h.0
first_number n (star r a) h = first_number n a h.0

-- the last record's number is one less than that of the record after the expression
pub last_number : (n : ℕ) (e : Expr) → Numbered n e → last e + 1 ≡ n + size e
last_number n (step r a l) h = omega arith
last_number n (tested r a x) h = omega arith
last_number n (sequence r a b) h = omega arith
last_number n (choice r a b) h = omega arith
last_number n (star r a) h = omega arith

-- In a sequence or a choice the first operand ends just before the second's first record.
pub join_first : (n : ℕ) (a b : Expr) → Numbered n a → Numbered (n + size a) b → last a + 1 ≡ first b
join_first n a b p q = last_number n a p ∙ sym (first_number (n + size a) b q)

-- The record of a tested step or a star comes just after its operand's last, that of a sequence or a choice just after its
-- second's (x is that operand and n the number before it).
pub operand_last : (n : ℕ) (x : Expr) {r : ℕ} → Numbered n x → r ≡ n + size x → last x + 1 ≡ r
operand_last n x p q = last_number n x p ∙ sym q

-- a subexpression and where it stands
pub record Node : Type 0 where
  pub expr : Expr
  pub context : Context

abbrev pub node : Expr → Context → Node
node e K = record { expr = e; context = K }

-- the subexpressions of e, which stands in K, in postfix order
abbrev pub nodes : Expr → Context → List Node
nodes (step r a l) K = node (step r a l) K ∷ []
nodes (tested r a x) K = nodes x (test r a K) ++ (node (tested r a x) K ∷ [])
nodes (sequence r a b) K = nodes a (first_of r b K) ++ nodes b (second_of r a K) ++ (node (sequence r a b) K ∷ [])
nodes (choice r a b) K = nodes a (one_of r b K) ++ nodes b (other_of r a K) ++ (node (choice r a b) K ∷ [])
nodes (star r a) K = nodes a (round_of r K) ++ (node (star r a) K ∷ [])

-- one for each record
pub length-nodes : (e : Expr) (K : Context) → length (nodes e K) ≡ size e
length-nodes (step r a l) K = refl
length-nodes (tested r a x) K = simp (length-append, length-nodes x (test r a K))
length-nodes (sequence r a b) K = simp (length-append, length-nodes a (first_of r b K), length-nodes b (second_of r a K))
length-nodes (choice r a b) K = simp (length-append, length-nodes a (one_of r b K), length-nodes b (other_of r a K))
length-nodes (star r a) K = simp (length-append, length-nodes a (round_of r K))

nodes_after : (before : List Node) (e : Expr) (K : Context) → length (before ++ nodes e K) ≡ length before + size e
nodes_after before e K = rw (length-append, length-nodes e K)

-- e itself is the last of them
nodes_last : (e : Expr) (K : Context) → (inner : List Node) × (nodes e K ≡ inner ++ (node e K ∷ []))
nodes_last (step r a l) K = ([], refl)
nodes_last (tested r a x) K = (nodes x (test r a K), refl)
nodes_last (sequence r a b) K = (nodes a (first_of r b K) ++ nodes b (second_of r a K), refl)
nodes_last (choice r a b) K = (nodes a (one_of r b K) ++ nodes b (other_of r a K), refl)
nodes_last (star r a) K = (nodes a (round_of r K), refl)

-- they stand together among the rule's, as many before them as their numbers say
nodes_within : (e : Expr) (K : Context) → Numbered 0 (plug e K)
    → (before after : List Node) × Numbered (length before) e × (nodes (plug e K) whole ≡ before ++ (nodes e K ++ after))
nodes_within e whole h = ([], [], h, sym (append-nil (nodes e whole)))
nodes_within e (test r a K) h =
    let (before, after, n, p) = nodes_within (tested r a e) K h in
    (before, node (tested r a e) K ∷ after, n.0, p ∙ simp append_assoc)
nodes_within e (first_of r b K) h =
    let (before, after, n, p) = nodes_within (sequence r e b) K h in
    (before, nodes b (second_of r e K) ++ (node (sequence r e b) K ∷ after), n.0, p ∙ simp append_assoc)
nodes_within e (second_of r a K) h =
    let (before, after, n, p) = nodes_within (sequence r a e) K h in
    let number = rw (← nodes_after before a (first_of r e K)) at n.1 in
    (before ++ nodes a (first_of r e K), node (sequence r a e) K ∷ after, number, p ∙ simp append_assoc)
nodes_within e (one_of r b K) h =
    let (before, after, n, p) = nodes_within (choice r e b) K h in
    (before, nodes b (other_of r e K) ++ (node (choice r e b) K ∷ after), n.0, p ∙ simp append_assoc)
nodes_within e (other_of r a K) h =
    let (before, after, n, p) = nodes_within (choice r a e) K h in
    let number = rw (← nodes_after before a (one_of r e K)) at n.1 in
    (before ++ nodes a (one_of r e K), node (choice r a e) K ∷ after, number, p ∙ simp append_assoc)
nodes_within e (round_of r K) h =
    let (before, after, n, p) = nodes_within (star r e) K h in
    (before, node (star r e) K ∷ after, n.0, p ∙ simp append_assoc)

-- Each node of a rule is numbered one by one.
pub numbered_node : (e : Expr) (K : Context) → Numbered 0 (plug e K) → (n : ℕ) × Numbered n e
numbered_node e K h = let (before, after, n, p) = nodes_within e K h in (length before, n)

-- so as many nodes stand before a node as its number says
node_split : (e : Expr) (K : Context) → Numbered 0 (plug e K)
    → (before after : List Node) × (nodes (plug e K) whole ≡ before ++ node e K ∷ after) × (length before ≡ last e)
node_split e K h =
    let (before, after, n, p) = nodes_within e K h in
    let (inner, q) = nodes_last e K in
    let long = simp length-append at (ap length q) in
    let number : length (before ++ inner) ≡ last e = simp length-append (omega (arith, last_number (length before) e n, length-nodes e K)) in
    (before ++ inner, after, p ∙ rw q (simp append_assoc), number)

-- At the number by which a node is named the rule's list has that node.
pub node_place : (d : Node) (e : Expr) (K : Context) → Numbered 0 (plug e K) → get_or (nodes (plug e K) whole) (last e) d ≡ node e K
node_place d e K h = let (before, after, p, q) = node_split e K h in rw p (get_or_at before (node e K) after d (last e) q)

-- Each node's last record is one of the rule's.
pub node_below : (e : Expr) (K : Context) → Numbered 0 (plug e K) → last e < size (plug e K)
node_below e K h =
    let (before, after, p, q) = node_split e K h in
    let long = simp length-append at (ap length p) in
    omega (arith, length-nodes (plug e K) whole)

-- In a rule a record number names one subexpression, and it stands in one place.
pub one_node : {rule : Expr} → Numbered 0 rule → (e f : Expr) (K L : Context) → plug e K ≡ rule → plug f L ≡ rule
    → last e ≡ last f → (e ≡ f) × (K ≡ L)
one_node {rule} h e f K L p q s = (ap (λ (x : Node). x.expr) same, ap (λ (x : Node). x.context) same)
  where
    same : node e K ≡ node f L
    same = cc (node_place (node e K) e K (rw p h), node_place (node e K) f L (rw q h))

-- a record of an expression with one operand, and with two, is an operand's or its own
of_operand : {A : Type 0} (r n : ℕ) (x : Expr) {q : ℕ} → Numbered n (star q x) → r ≤ q → (r ≤ last x → A) → (q ≡ r → A) → A
of_operand r n x {q} h hi f g =
    elim (dec_lt r q) [ yes l ↦ f (omega (arith, operand_last n x h.0 h.1)) | no l ↦ g (omega arith) ]

of_join : {A : Type 0} (r n : ℕ) (a b : Expr) {q : ℕ} → Numbered n (sequence q a b) → r ≤ q
    → (r ≤ last a → A) → (n + size a ≤ r → r ≤ last b → A) → (q ≡ r → A) → A
of_join {A} r n a b h hi f g = of_operand r (n + size a) b (h.1, h.2) hi second
  where
    second : r ≤ last b → A
    second l = elim (dec_le r (last a)) [ yes m ↦ f m | no m ↦ g (omega (arith, last_number n a h.0)) l ]

-- so a record number leads down to a node
walk : (r n : ℕ) (e : Expr) (K : Context) → Numbered n e → n ≤ r → r ≤ last e
    → (f : Expr) × (L : Context) × (plug f L ≡ plug e K) × (last f ≡ r)
walk r n (step q a l) K h lo hi = (step q a l, K, refl, omega arith)
walk r n (tested q a x) K h lo hi = of_operand r n x h hi (walk r n x (test q a K) h.0 lo) (λ e. (tested q a x, K, refl, e))
walk r n (sequence q a b) K h lo hi =
    of_join r n a b h hi (walk r n a (first_of q b K) h.0 lo) (walk r (n + size a) b (second_of q a K) h.1)
    (λ e. (sequence q a b, K, refl, e))
walk r n (choice q a b) K h lo hi =
    of_join r n a b h hi (walk r n a (one_of q b K) h.0 lo) (walk r (n + size a) b (other_of q a K) h.1)
    (λ e. (choice q a b, K, refl, e))
walk r n (star q a) K h lo hi = of_operand r n a h hi (walk r n a (round_of q K) h.0 lo) (λ e. (star q a, K, refl, e))

-- Each record number of a rule names a subexpression.
pub node_named : {rule : Expr} → Numbered 0 rule → (r : ℕ) → r < size rule
    → (e : Expr) × (K : Context) × (plug e K ≡ rule) × (last e ≡ r)
node_named {rule} h r l = walk r 0 rule whole h (omega arith) (omega (arith, last_number 0 rule h))
