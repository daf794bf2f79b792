-- The first record of an expression: there is only one, and the record number falls at each operand on the way to it.
-- It is the first record that the meaning gives to the subexpression.
use Prim.Native.Nat.{ℕ, ◌+◌, ◌-◌, ◌≤◌, ◌<◌}
use mathlib.Core.Path.{◌≡◌, refl, sym, ◌∙◌, ap}
use mathlib.Core.Logic.{◌≢◌}
use mathlib.Core.List.{List}
use native.Mathlib.Omega.{arith}
use lib.ListN.{length, get_or}
use Rattle.meaning.specs.Expression.{Rec, Expr, step, tested, sequence, choice, star, last, first, size, Expression, operands, Context, test, first_of, second_of, one_of, other_of, round_of, plug}
use Rattle.meaning.proofs.Names.{operand_last, join_first, numbered_node, node_below}
use Rattle.meaning.proofs.Postfix.{own as own_of, own_record, expression_long, node_at}
use Rattle.records.specs.declared.Record.{Record}
use Rattle.records.specs.Rules.{rec_of, record_at, starts_of, records_of, Front}
use Rattle.records.specs.First.{First, own, of_one, of_two, taken, Ends, Inside}
use Rattle.records.proofs.Starts.{front_record}

-- The record stands in the rule,
pub first_below : {rs : List Rec} {r f : ℕ} → First rs r f → r < length rs
first_below (own h t) = h
first_below (of_one h t some p) = h
first_below (of_two m h t some p more q) = h

-- and its first does not stand behind it.
pub first_before : {rs : List Rec} {r f : ℕ} → First rs r f → f ≤ r
first_before (own h t) = omega arith
first_before (of_one h t some p) = let k = first_before p in omega arith
first_before (of_two m h t some p more q) = let k = first_before p in let l = first_before q in omega arith

-- How many expressions a record takes is told by the record that is read.
pub taken_read : (s : List ℕ) {starts : List ℕ} {k n : ℕ} {r : Record} → Front (starts_of s) starts → k < length (records_of s) →
    r ≡ record_at s (get_or starts k 0) → n ≡ operands (rec_of r) → taken (records_of s) k ≡ n
taken_read s {k = k} front h e m = ap operands (front_record s front k h) ∙ sym (m ∙ ap (λ (r : Record). operands (rec_of r)) e)

-- An expression has one first record.
pub first_unique : {rs : List Rec} {r f g : ℕ} → First rs r f → First rs r g → f ≡ g
first_unique (own h t) (own h' t') = refl
first_unique (own h t) (of_one h' t' some p) = absurd (omega arith)
first_unique (own h t) (of_two m h' t' some p more q) = absurd (omega arith)
first_unique (of_one h t some p) (own h' t') = absurd (omega arith)
first_unique (of_one h t some p) (of_one h' t' some' p') = first_unique p p'
first_unique (of_one h t some p) (of_two m h' t' some' p' more q) = absurd (omega arith)
first_unique (of_two m h t some p more q) (own h' t') = absurd (omega arith)
first_unique (of_two m h t some p more q) (of_one h' t' some' p') = absurd (omega arith)
first_unique (of_two m h t some p more q) (of_two m' h' t' some' p' more' q') =
    let same : m ≡ m' = first_unique p p' in first_unique q (rw (← same) at q')

-- A record that takes an operand has one that ends just before it.
pub operand : {rs : List Rec} {r f : ℕ} → First rs r f → taken rs r ≢ 0 → (0 < r) × Ends rs (r - 1)
operand (own h t) other = absurd (other t)
operand (of_one {f = f} h t some p) other = (some, (f, p))
operand (of_two m h t some p more q) other = (some, (m, p))

-- The operand of a record that takes one stands where that record does.
pub inside_more : {rs : List Rec} {last r : ℕ} → Inside rs last r → taken rs r ≡ 1 → (0 < r) × Inside rs last (r - 1)
inside_more {rs} {last} {r} x one =
    let (f, p) = x.ends in
    let before = x.before in
    let (some, e) = operand p (λ z. omega (arith, z, one)) in (
      some,
      record { before = omega arith; ends = e; same = λ g q. x.same g (of_one (first_below p) one some q) },
    )

-- One that takes two has another, which ends just before that one begins.
pub first_operand : {rs : List Rec} {r f m : ℕ} → First rs r f → taken rs r ≢ 0 → taken rs r ≢ 1 → First rs (r - 1) m →
    (taken rs r ≡ 2) × (0 < m) × Ends rs (m - 1)
first_operand (own h t) other two p = absurd (other t)
first_operand (of_one h t some p) other two p' = absurd (two t)
first_operand {m = m} (of_two {f = f} m' h t some p more q) other two p' =
    let same : m' ≡ m = first_unique p p' in (t, rw same at more, (f, rw same at q))

module _ {rs : List Rec} {rule : Expr} (x : Expression rs rule) where
  stands : (e : Expr) (K : Context) → plug e K ≡ rule → last e < length rs
  stands e K p = rw (expression_long x, ← p) (node_below e K (rw p x.numbered))

  -- of an expression with one operand y, and with two, a and b
  from_one : (e y : Expr) (K : Context) → plug e K ≡ rule → operands (own_of e) ≡ 1 → last y + 1 ≡ last e →
      First rs (last y) (first y) → First rs (last e) (first y)
  from_one e y K p t h q =
      let back : last y ≡ last e - 1 = omega arith in
      of_one (stands e K p) (ap operands (own_record x e K p) ∙ t) (omega arith) (rw back at q)

  from_two : (e a b : Expr) (K : Context) → plug e K ≡ rule → operands (own_of e) ≡ 2 → last a + 1 ≡ first b → last b + 1 ≡ last e →
      First rs (last a) (first a) → First rs (last b) (first b) → First rs (last e) (first a)
  from_two e a b K p t j h q q' =
      let back : last b ≡ last e - 1 = omega arith in
      let before : last a ≡ first b - 1 = omega arith in
      of_two (first b) (stands e K p) (ap operands (own_record x e K p) ∙ t) (omega arith) (rw back at q') (omega arith)
      (rw before at q)

  -- In a rule, the first record of a subexpression is the meaning's.
  pub first_node : (e : Expr) (K : Context) → plug e K ≡ rule → First rs (last e) (first e)
  first_node (step r a l) K p = own (stands (step r a l) K p) (ap operands (own_record x (step r a l) K p))
  first_node (tested r a y) K p =
      let (n, m) = numbered_node (tested r a y) K (rw p x.numbered) in
      from_one (tested r a y) y K p refl (operand_last n y m.0 m.1) (first_node y (test r a K) p)
  first_node (sequence r a b) K p =
      let (n, m) = numbered_node (sequence r a b) K (rw p x.numbered) in
      from_two (sequence r a b) a b K p refl (join_first n a b m.0 m.1) (operand_last (n + size a) b m.1 m.2)
      (first_node a (first_of r b K) p) (first_node b (second_of r a K) p)
  first_node (choice r a b) K p =
      let (n, m) = numbered_node (choice r a b) K (rw p x.numbered) in
      from_two (choice r a b) a b K p refl (join_first n a b m.0 m.1) (operand_last (n + size a) b m.1 m.2)
      (first_node a (one_of r b K) p) (first_node b (other_of r a K) p)
  first_node (star r a) K p =
      let (n, m) = numbered_node (star r a) K (rw p x.numbered) in
      from_one (star r a) a K p refl (operand_last n a m.0 m.1) (first_node a (round_of r K) p)

  -- Every record of a rule ends an expression.
  pub ends_each : (r : ℕ) → r < length rs → Ends rs r
  ends_each r h = let (e, K, p, q) = node_at x r h in (first e, rw q at (first_node e K p))
