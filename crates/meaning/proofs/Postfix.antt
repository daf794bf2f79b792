-- Records in postfix order: which record stands at which number, and when a list of records is an expression.
-- It is one exactly if no record finds too few expressions before it and one is left (document 01, refusals 12 and 13).
use Prim.Native.Nat.{ℕ, ◌+◌, ◌-◌, ◌≤◌, ◌<◌}
use mathlib.Core.Path.{◌≡◌, refl, sym, ap, ◌∙◌}
use mathlib.Core.List.{List, [], ◌∷◌, ◌++◌, map, map-append, append_assoc, append-nil, head-eq_of_cons-eq}
use mathlib.Core.Logic.{◌↔◌}
use native.Mathlib.Nat.{add_assoc}
use native.Mathlib.Omega.{arith}
use lib.ListN.{length, get_or, length-append, length-map, get_or-map}
use lib.Seq.{append_snoc}
use Rattle.meaning.specs.Expression.{
  Rec,
  plain,
  testing,
  joining,
  choosing,
  starring,
  Expr,
  step,
  tested,
  sequence,
  choice,
  star,
  last,
  postfix,
  size,
  Numbered,
  Expression,
  operands,
  Leaves,
  all_read,
  one_more,
  Context,
  whole,
  test,
  first_of,
  second_of,
  one_of,
  other_of,
  round_of,
  plug,
}
use Rattle.meaning.proofs.Names.{Node, node, nodes, length-nodes, node_place, node_named}

-- the record by which an expression is named
abbrev pub own : Expr → Rec
own (step r a l) = plain a l
own (tested r a x) = testing a
own (sequence r a b) = joining
own (choice r a b) = choosing
own (star r a) = starring

abbrev record_of : Node → Rec
record_of x = own x.expr

-- the records of an expression are those of its nodes, in their order
records_of_nodes : (e : Expr) (K : Context) → map record_of (nodes e K) ≡ postfix e
records_of_nodes (step r a l) K = refl
records_of_nodes (tested r a x) K = simp (map-append record_of, records_of_nodes x (test r a K))
records_of_nodes (sequence r a b) K = simp (map-append record_of, records_of_nodes a (first_of r b K), records_of_nodes b (second_of r a K))
records_of_nodes (choice r a b) K = simp (map-append record_of, records_of_nodes a (one_of r b K), records_of_nodes b (other_of r a K))
records_of_nodes (star r a) K = simp (map-append record_of, records_of_nodes a (round_of r K))

-- an expression has as many records as its size says
pub length-postfix : (e : Expr) → length (postfix e) ≡ size e
length-postfix e = rw (← records_of_nodes e whole) (length-map (nodes e whole) record_of ∙ length-nodes e whole)

pub expression_long : {rs : List Rec} {e : Expr} → Expression rs e → length rs ≡ size e
expression_long {rs} {e} h = rw (← h.order) (length-postfix e)

-- At the number by which a node is named stands the node's own record.
pub own_record : {rs : List Rec} {rule : Expr} → Expression rs rule → (e : Expr) (K : Context) → plug e K ≡ rule
    → get_or rs (last e) starring ≡ own e
own_record {rs} {rule} x e K p =
    let d = node (star 0 e) K in
    rw (← x.order, ← records_of_nodes rule whole, ← p)
    (get_or-map record_of (nodes (plug e K) whole) (last e) d ∙ ap record_of (node_place d e K (rw p x.numbered)))

-- Each record number names a node.
pub node_at : {rs : List Rec} {rule : Expr} → Expression rs rule → (r : ℕ) → r < length rs
    → (e : Expr) × (K : Context) × (plug e K ≡ rule) × (last e ≡ r)
node_at x r h = node_named x.numbered r (omega (arith, expression_long x))

-- one record takes its operands and leaves one expression
leaves_record : (r : Rec) (m : ℕ) {k : ℕ} {rs : List Rec} {n : ℕ} → k ≡ m + operands r → Leaves (m + 1) rs n → Leaves k (r ∷ rs) n
leaves_record r m {k} e h = one_more (enough (operands r) e) (rw (left (operands r) e) at h)
  where
    enough : (o : ℕ) → k ≡ m + o → o ≤ k
    enough o d = omega arith

    left : (o : ℕ) → k ≡ m + o → m + 1 ≡ k - o + 1
    left o d = omega arith

-- the records of an expression leave one more than stood before them
leaves_postfix : (e : Expr) (m : ℕ) {rs : List Rec} {n : ℕ} → Leaves (m + 1) rs n → Leaves m (postfix e ++ rs) n
leaves_postfix (step r a l) m h = leaves_record (plain a l) m (omega arith) h
leaves_postfix (tested r a x) m h = simp append_assoc (leaves_postfix x m (leaves_record (testing a) m (omega arith) h))
leaves_postfix (sequence r a b) m h =
    simp append_assoc (leaves_postfix a m (leaves_postfix b (m + 1) (leaves_record joining m (omega arith) h)))
leaves_postfix (choice r a b) m h =
    simp append_assoc (leaves_postfix a m (leaves_postfix b (m + 1) (leaves_record choosing m (omega arith) h)))
leaves_postfix (star r a) m h = simp append_assoc (leaves_postfix a m (leaves_record starring m (omega arith) h))

pub expression_leaves : {rs : List Rec} {e : Expr} → Expression rs e → Leaves 0 rs 1
expression_leaves {rs} {e} h = rw (sym (append-nil (postfix e) ∙ h.order)) (leaves_postfix e 0 all_read)

-- so many expressions stand one after another, numbered on from 0, and these are their records
data Standing : ℕ → List Rec → Type 0 where
  nothing : Standing 0 []
  stands : {m k : ℕ} {before rs : List Rec} (e : Expr) → Standing m before → Numbered (length before) e → k ≡ m + 1
      → before ++ postfix e ≡ rs → Standing k rs

-- what stands is as long as the sizes say
length_more : (before : List Rec) (e : Expr) {rs : List Rec} → before ++ postfix e ≡ rs → length rs ≡ length before + size e
length_more before e p = rw (← p) (rw length-append (rw (length-postfix e)))

-- a record of one operand takes the last of them, and one of two operands the last two; f says what it makes of them
stands_one : {k : ℕ} {rs : List Rec} (r : Rec) (f : Expr → Expr)
    → ((x : Expr) → postfix (f x) ≡ postfix x ++ (r ∷ []))
    → ((n : ℕ) (x : Expr) → Numbered n (star (length rs) x) → Numbered n (f x))
    → 1 ≤ k → Standing k rs → Standing (k - 1 + 1) (rs ++ (r ∷ []))
stands_one r f order numbered h nothing = absurd (omega arith)
stands_one {k} {rs} r f order numbered h (stands {before} x s n c p) =
    stands {k = k - 1 + 1} {rs = rs ++ (r ∷ [])} (f x) s (numbered (length before) x (n, length_more before x p)) (omega arith)
    (rw (order x, ← p, append_assoc))

stands_two : {k : ℕ} {rs : List Rec} (r : Rec) (f : Expr → Expr → Expr)
    → ((a b : Expr) → postfix (f a b) ≡ postfix a ++ postfix b ++ (r ∷ []))
    → ((n : ℕ) (a b : Expr) → Numbered n (sequence (length rs) a b) → Numbered n (f a b))
    → 2 ≤ k → Standing k rs → Standing (k - 2 + 1) (rs ++ (r ∷ []))
stands_two r f order numbered h nothing = absurd (omega arith)
stands_two r f order numbered h (stands b nothing m d q) = absurd (omega arith)
stands_two {k} {rs} r f order numbered h (stands {before = between} b (stands {before} a s n c p) m d q) =
    stands {k = k - 2 + 1} (f a b) s (numbered (length before) a b (n, rw (← length_more before a p) m, long)) (omega arith) same
  where
    long : length rs ≡ length before + size a + size b
    long = omega (arith, length_more before a p, length_more between b q)

    same : before ++ postfix (f a b) ≡ rs ++ (r ∷ [])
    same = rw (order a b, ← q, ← p) (simp append_assoc)

-- a record takes its operands from those that stand, and stands with them as one expression
stands_record : (r : Rec) {k : ℕ} {rs : List Rec} → operands r ≤ k → Standing k rs → Standing (k - operands r + 1) (rs ++ (r ∷ []))
stands_record (plain a l) {k} {rs} h s = stands {k = k - 0 + 1} (step (length rs) a l) s refl (omega arith) refl
stands_record (testing a) {rs} h s = stands_one (testing a) (tested (length rs) a) (λ x. refl) (λ n x p. p) h s
stands_record joining {rs} h s = stands_two joining (sequence (length rs)) (λ a b. refl) (λ n a b p. p) h s
stands_record choosing {rs} h s = stands_two choosing (choice (length rs)) (λ a b. refl) (λ n a b p. p) h s
stands_record starring {rs} h s = stands_one starring (star (length rs)) (λ x. refl) (λ n x p. p) h s

-- reading on keeps them standing
stands_read : {m n : ℕ} {rs : List Rec} (before : List Rec) → Standing m before → Leaves m rs n → Standing n (before ++ rs)
stands_read before s all_read = rw (append-nil before) s
stands_read before s (one_more {m} {r} {rs} h l) =
    rw (← append_snoc before r rs) (stands_read (before ++ (r ∷ [])) (stands_record r h s) l)

pub leaves_expression : {rs : List Rec} → Leaves 0 rs 1 → (e : Expr) × Expression rs e
leaves_expression h = alone (stands_read [] nothing h)
  where
    alone : {rs : List Rec} → Standing 1 rs → (e : Expr) × Expression rs e
    alone (stands e nothing n c p) = (e, record { order = p; numbered = n })
    alone (stands e (stands f s m d q) n c p) = absurd (omega arith)

-- Records are an expression exactly if reading them finds enough before each and leaves one.
pub is_expression : {rs : List Rec} → ((e : Expr) × Expression rs e) ↔ Leaves 0 rs 1
is_expression = (λ h. expression_leaves h.1, leaves_expression)

-- what reading leaves is determined
pub leaves_unique : {m n n' : ℕ} {rs : List Rec} → Leaves m rs n → Leaves m rs n' → n ≡ n'
leaves_unique all_read all_read = refl
leaves_unique (one_more h l) (one_more h' l') = leaves_unique l l'

-- the expressions that stand, the last first, after record k is read; where too few stand, which no expression's records
-- meet, it does not matter what
put : ℕ → Rec → List Expr → List Expr
put k (plain a l) s = step k a l ∷ s
put k (testing a) [] = []
put k (testing a) (x ∷ s) = tested k a x ∷ s
put k joining [] = []
put k joining (b ∷ []) = []
put k joining (b ∷ a ∷ s) = sequence k a b ∷ s
put k choosing [] = []
put k choosing (b ∷ []) = []
put k choosing (b ∷ a ∷ s) = choice k a b ∷ s
put k starring [] = []
put k starring (a ∷ s) = star k a ∷ s

-- and after all records are read, numbered on from k
read : ℕ → List Rec → List Expr → List Expr
read k [] s = s
read k (r ∷ rs) s = read (k + 1) rs (put k r s)

-- reading an expression's records puts it on top
read_postfix : (n : ℕ) (e : Expr) → Numbered n e → (rs : List Rec) (s : List Expr)
    → read n (postfix e ++ rs) s ≡ read (n + size e) rs (e ∷ s)
unfolding read put
read_postfix n (step r a l) h rs s = rw h
read_postfix n (tested r a x) h rs s = simp (append_assoc, read_postfix n x h.0 (testing a ∷ rs) s, h.1, add_assoc)
read_postfix n (sequence r a b) h rs s =
    let first = read_postfix n a h.0 (postfix b ++ (joining ∷ rs)) s in
    let second = read_postfix (n + size a) b h.1 (joining ∷ rs) (a ∷ s) in
    simp (append_assoc, first, second, h.2, add_assoc)
read_postfix n (choice r a b) h rs s =
    let first = read_postfix n a h.0 (postfix b ++ (choosing ∷ rs)) s in
    let second = read_postfix (n + size a) b h.1 (choosing ∷ rs) (a ∷ s) in
    simp (append_assoc, first, second, h.2, add_assoc)
read_postfix n (star r a) h rs s = simp (append_assoc, read_postfix n a h.0 (starring ∷ rs) s, h.1, add_assoc)

-- The records determine the expression, its numbers included.
pub one_expression : {rs : List Rec} {e f : Expr} → Expression rs e → Expression rs f → e ≡ f
unfolding read
one_expression {rs} {e} {f} p q = head-eq_of_cons-eq (sym (leaves e p) ∙ leaves f q)
  where
    leaves : (g : Expr) → Expression rs g → read 0 rs [] ≡ g ∷ []
    leaves g h = rw (← h.order, ← append-nil (postfix g)) (read_postfix 0 g h.numbered [] [])
