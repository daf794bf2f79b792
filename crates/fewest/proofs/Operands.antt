-- The operands of a record: each ends before it, and is one of the records.
-- What one record's part of the links leaves, by the record that was read and by the subexpression that it names.
use Prim.Native.Nat.{ℕ, ◌+◌, ◌-◌, ◌<◌}
use mathlib.Core.Path.{◌≡◌, refl, ap, ◌∙◌}
use mathlib.Core.Logic.{◌≢◌}
use mathlib.Core.List.{List}
use native.Mathlib.Omega.{arith}
use lib.ListN.{get_or}
use Rattle.meaning.specs.Limits.{records}
use Rattle.meaning.specs.Move.{Axis, Label}
use Rattle.meaning.specs.Expression.{Rec, plain, starring, Expr, step, tested, sequence, choice, star, last, first, Expression, operands, Context, second_of, other_of, plug}
use Rattle.meaning.proofs.Names.{join_first, numbered_node}
use Rattle.meaning.proofs.Postfix.{own, own_record}
use Rattle.records.specs.Rules.{records_of}
use Rattle.records.specs.First.{First, taken, Ends}
use Rattle.records.proofs.Starts.{records_few}
use Rattle.records.proofs.First.{first_below, first_before, first_unique, operand, first_operand, first_node}
use Rattle.fewest.specs.Frame.{as_test, as_first, as_round, role_of, up_of, Links}
use Rattle.fewest.specs.LinksOf.{stand, take, begin, join, standing, Precedes, Joined, Stood}
use Rattle.fewest.proofs.Roles.{operand_before}

-- a record that ends an expression stands within the limit
pub ends_inside : (s : List ℕ) {r : ℕ} → Ends (records_of s) r → r < records
ends_inside s e = omega (arith, first_below e.1, records_few s)

-- the second operand of a join ends just before it and begins at m: so the first ends just before m
pub record Join (rs : List Rec) (r m : ℕ) : Type 0 where
  pub some : 0 < m
  pub before : m < r
  pub precedes : Precedes rs r (m - 1)

pub join_operands : {rs : List Rec} {r m : ℕ} → Ends rs r → taken rs r ≡ 2 → First rs (r - 1) m → Join rs r m
join_operands {rs} {r} {m} e two p =
    let (t, some, q) = first_operand e.1 (λ h. omega arith) (λ h. omega arith) p in
    let (positive, o) = operand e.1 (λ h. omega arith) in
    let same : m ≡ m - 1 + 1 = omega arith in
    record { some = some; before = omega (arith, first_before p); precedes = rw same at p }

-- The two stores of a join and its own, in the order of the code.
pub joined : {rs : List Rec} {r m p s : ℕ} {L L₁ L₂ : Links} → Join rs r m →
    L₁ ≡ take (r - 1) r L → L₂ ≡ stand (m - 1) p s L₁ → Joined rs r p s L (begin r (m - 1) L₂)
joined {m = m} j one two = record { operand = m - 1; precedes = j.precedes; stores = rw (two, one) }

-- A record that takes an operand is not the first.
pub has_operand : {rs : List Rec} {r : ℕ} (k : Rec) → Ends rs r → get_or rs r starring ≡ k → operands k ≢ 0 → 0 < r
has_operand k e here some = (operand e.1 (λ h. some (rw here at h))).0

-- What a record's part leaves, once the record is known: of one that takes none,
pub stood_none : {rs : List Rec} {r : ℕ} {L : Links} (a : Axis) (l : Label) → get_or rs r starring ≡ plain a l → Stood rs r L L
stood_none a l here = record { operand = 0; precedes = λ two. absurd (omega (arith, ap operands here)); stores = rw here refl }

-- of one that takes one, which stands so,
pub stood_one : {rs : List Rec} {r : ℕ} {L L' : Links} (k : Rec) (s : ℕ) → get_or rs r starring ≡ k → operands k ≡ 1 →
    ((M : Links) → stand (r - 1) r s M ≡ standing k r 0 M) → L' ≡ stand (r - 1) r s L → Stood rs r L L'
stood_one k s here one same e = record {
  operand = 0;
  precedes = λ two. absurd (omega (arith, ap operands here));
  stores = rw here (e ∙ same _);
}

-- and of a join, whose first operand stands so.
pub stood_join : {rs : List Rec} {r p s : ℕ} {L L' : Links} (k : Rec) → get_or rs r starring ≡ k →
    ((f : ℕ) → join r f p s L ≡ standing k r f L) → Joined rs r p s L L' → Stood rs r L L'
stood_join k here same j =
    record { operand = j.operand; precedes = λ two. j.precedes; stores = rw here (j.stores ∙ same j.operand) }

-- the entries of a subexpression say where it stands
abbrev pub Right : Links → Expr → Context → Type 0
Right L e K = (get_or L.up (last e) 0 ≡ up_of K) × (get_or L.role (last e) 0 ≡ role_of K)

-- what is stored for the operands of a subexpression, which stands so
abbrev pub standing_of : Expr → Context → Links → Links
standing_of (step r a l) N L = L
standing_of (tested r a x) N L = stand (last x) r as_test L
standing_of (sequence r a b) N L = begin r (last a) (stand (last a) r as_first (stand (last b) (up_of N) (role_of N) L))
standing_of (choice r a b) N L = begin r (last a) (stand (last a) (up_of N) (role_of N) (stand (last b) (up_of N) (role_of N) L))
standing_of (star r a) N L = stand (last a) r as_round L

module _ {rs : List Rec} {rule : Expr} (x : Expression rs rule) where
  -- the first operand of a join, by its second, which ends just before the join
  precedes_last : (q : ℕ) (a b : Expr) (B : Context) {f : ℕ} → plug b B ≡ rule → q - 1 ≡ last b → last a + 1 ≡ first b → Precedes rs q f → f ≡ last a
  precedes_last q a b B {f} p back j h = omega (arith, first_unique (rw back at h) (first_node x b B p))

  standing_node : (f : ℕ) (L : Links) (n : Expr) (N : Context) → plug n N ≡ rule → Right L n N →
      (operands (own n) ≡ 2 → Precedes rs (last n) f) → standing (own n) (last n) f L ≡ standing_of n N L
  standing_node f L (step q a l) N p right h = refl
  standing_node f L (tested q a y) N p right h = rw (operand_before x.numbered (tested q a y) N p)
  standing_node f L (sequence q a b) N p right h =
      let (k, m) = numbered_node (sequence q a b) N (rw p x.numbered) in
      let back = operand_before x.numbered (sequence q a b) N p in
      rw (precedes_last q a b (second_of q a N) p back (join_first k a b m.0 m.1) (h refl), back, right.0, right.1)
  standing_node f L (choice q a b) N p right h =
      let (k, m) = numbered_node (choice q a b) N (rw p x.numbered) in
      let back = operand_before x.numbered (choice q a b) N p in
      rw (precedes_last q a b (other_of q a N) p back (join_first k a b m.0 m.1) (h refl), back, right.0, right.1)
  standing_node f L (star q a) N p right h = rw (operand_before x.numbered (star q a) N p)

  -- What a record's part stores is stored for the operands of the subexpression that it names.
  pub stood_node : {r : ℕ} {L L' : Links} → Stood rs r L L' → (n : Expr) (N : Context) → plug n N ≡ rule → last n ≡ r → Right L n N →
      L' ≡ standing_of n N L
  stood_node {r} {L} {L'} s n N p h right =
      let own-one = own_record x n N p in
      s.stores ∙
      rw (← h, own-one)
      (standing_node s.operand L n N p right (λ e. rw (← h) at (s.precedes (rw (← h) (ap operands own-one ∙ e)))))
