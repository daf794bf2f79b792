-- Which records the walk may enter where it stands, told by the lists, is where the free moves of its state lead.
-- The walk stands at the beginning of the rule, or after a record whose expression is finished.
use Prim.Native.Nat.{ℕ, ◌+◌, ◌-◌, ◌<◌}
use mathlib.Core.Path.{◌≡◌, refl, sym, ap, subst, ◌∙◌}
use mathlib.Core.Logic.{⊎_elim}
use mathlib.Core.List.{List, Memᴰ}
use mathlib.Core.List.Memᴰ
use native.Mathlib.Omega.{arith}
use lib.ListN.{length, get_or}
use Rattle.std.specs.Prelude.{Option, Some}
use Rattle.meaning.specs.Site.{Site, Voc}
use Rattle.meaning.specs.Expression.{Rec, plain, testing, joining, choosing, starring, Expr, step, tested, sequence, choice, star, last, Expression, Context, whole, test, first_of, second_of, one_of, other_of, round_of, plug}
use Rattle.meaning.specs.Fewest.{Goal, State, entered, finished, Free, sequence_in, sequence_on, sequence_out, one_in, one_out, other_in, other_out, round_in, round_empty, round_again, round_out}
use Rattle.meaning.proofs.States.{place, rule_of, free_keeps}
use Rattle.meaning.proofs.Offers.{Opens, here, through, opens_rule}
use Rattle.meaning.proofs.Names.{last_number}
use Rattle.meaning.proofs.Postfix.{own, own_record, expression_long}
use Rattle.fewest.specs.declared.links.Links.{Links}
use Rattle.fewest.specs.Frame.{up_of, Linked, Frame}
use Rattle.fewest.specs.Next.{Next, on, again, ending}
use Rattle.fewest.specs.Offer.{Work, stepping, proving, copying, resting}
use Rattle.fewest.proofs.Roles.{along, operand_before}
use Rattle.fewest.proofs.Nexts.{role_next, next_as}
use Rattle.fewest.proofs.Works.{works, record_works}
use Rattle.fewest.proofs.Bridge.{node_record}
use Rattle.path.specs.Pick.{Enters, begin, after, inward, past}
use Rattle.path.specs.Walking.{Stands, at_begin, at_end}

-- the state is one of the rule's, at the term of the stand
pub stands_rule : {rule : Expr} {x : Option ℕ} {t : ℕ} {y : State} → Stands rule x t y → rule_of y ≡ rule
stands_rule at_begin = refl
stands_rule (at_end p q) = p

pub stands_place : {rule : Expr} {x : Option ℕ} {t : ℕ} {y : State} → Stands rule x t y → place y ≡ t
stands_place at_begin = refl
stands_place (at_end p q) = refl

-- the record after which the walk stands is one of the rule's
pub stands_record : {rs : List Rec} {rule : Expr} {r t : ℕ} {y : State} → Expression rs rule → Stands rule (Some r) t y → r < length rs
stands_record x (at_end {e} {K} p q) = omega (arith, node_record x e K p)

-- the whole rule is named by the last record of all
rule_last : {rs : List Rec} {rule : Expr} → Expression rs rule → last rule + 1 ≡ length rs
rule_last {rule = rule} x = omega (arith, last_number 0 rule x.numbered, expression_long x)

-- free moves lead from y to where the expression of record b is entered
abbrev pub OpensRecord : Site → State → ℕ → Type 0
OpensRecord s y b = (e : Expr) × (K : Context) × Opens s y e K × (last e ≡ b)

opens_through : {s : Site} {y z : State} {b : ℕ} → Free s y z → OpensRecord s z b → OpensRecord s y b
opens_through f (e, K, o, q) = (e, K, through f o, q)

-- what is entered from where e is entered is entered from where that is
opens_then : {s : Site} {y : State} {e f : Expr} {J K : Context} {t : ℕ} → place y ≡ t → Opens s y e K → Opens s (entered e K t) f J → Opens s y f J
opens_then p here o = rw p o
opens_then p (through f i) o = through f (opens_then ((free_keeps f).0 ∙ p) i o)

opens_on : {s : Site} {y : State} {e : Expr} {K : Context} {t b : ℕ} → place y ≡ t → Opens s y e K → OpensRecord s (entered e K t) b → OpensRecord s y b
opens_on p i (f, J, o, q) = (f, J, opens_then p i o, q)

-- the row that a work copies is that of a record entered from y
abbrev Copies : Site → State → Work → Type 0
Copies s y (stepping a l) = Unit
Copies s y (proving a) = Unit
Copies s y (copying b) = OpensRecord s y b
Copies s y resting = Unit

-- what a subexpression's row is copied from is entered where it is
works_open : (s : Site) (e : Expr) (K : Context) (t : ℕ) {w : Work} → Memᴰ w (works e) → Copies s (entered e K t) w
works_open s (step r a l) K t (Memᴰ.head q) = rw q tt
works_open s (tested r a y) K t (Memᴰ.head q) = rw q tt
works_open s (sequence r a c) K t (Memᴰ.head q) = rw q (a, first_of r c K, through sequence_in here, refl)
works_open s (choice r a c) K t (Memᴰ.head q) = rw q (a, one_of r c K, through one_in here, refl)
works_open s (choice r a c) K t (Memᴰ.tail (Memᴰ.head q)) = rw q (c, other_of r a K, through other_in here, refl)
works_open s (star r a) K t (Memᴰ.head q) = rw q (a, round_of r K, through round_in here, refl)
works_open s (star r a) K t (Memᴰ.tail (Memᴰ.head q)) = rw q tt
works_open s (step r a l) K t (Memᴰ.tail m) = absurd (Memᴰ.not-nil m)
works_open s (tested r a y) K t (Memᴰ.tail m) = absurd (Memᴰ.not-nil m)
works_open s (sequence r a c) K t (Memᴰ.tail m) = absurd (Memᴰ.not-nil m)
works_open s (choice r a c) K t (Memᴰ.tail (Memᴰ.tail m)) = absurd (Memᴰ.not-nil m)
works_open s (star r a) K t (Memᴰ.tail (Memᴰ.tail m)) = absurd (Memᴰ.not-nil m)

-- the record is a star's
abbrev IsStar : Rec → Type 0
IsStar (plain a l) = ⊥
IsStar (testing a) = ⊥
IsStar joining = ⊥
IsStar choosing = ⊥
IsStar starring = Unit

-- what a stand admits of a state: that its expression is entered, or what comes next once it is finished
abbrev Admits : Frame → List Rec → List ℕ → Option ℕ → State → Type 0
Admits F rs first z (entered e K t) = Enters F rs first t z (last e)
Admits F rs first z (finished e K t) = (b : ℕ) → Next F (last e) b → Enters F rs first t z b

module _ {rs : List Rec} {rule : Expr} {L : Links} (x : Expression rs rule) (linked : Linked rule L) {s : Site} {g : Goal} where
  -- What comes next once a subexpression is finished is entered from there by free moves.
  next_opens : (e : Expr) (K : Context) {t b : ℕ} → plug e K ≡ rule → Next (along L s g) (last e) b → OpensRecord s (finished e K t) b
  next_opens e whole p n = absurd (role_next linked e whole p n)
  next_opens e (test r a K) p n = absurd (role_next linked e (test r a K) p n)
  next_opens e (first_of r c K) p n =
      let q = operand_before x.numbered (sequence r e c) K p in
      (c, second_of r e K, through sequence_on here, sym (role_next linked e (first_of r c K) p n ∙ q))
  next_opens e (second_of r a K) p n =
      opens_through sequence_out (next_opens (sequence r a e) K p (next_as linked e (sequence r a e) (second_of r a K) K p p refl refl n))
  next_opens e (one_of r c K) p n =
      opens_through one_out (next_opens (choice r e c) K p (next_as linked e (choice r e c) (one_of r c K) K p p refl refl n))
  next_opens e (other_of r a K) p n =
      opens_through other_out (next_opens (choice r a e) K p (next_as linked e (choice r a e) (other_of r a K) K p p refl refl n))
  next_opens e (round_of r K) p n =
      let q = operand_before x.numbered (star r e) K p in
      ⊎_elim (λ k. (e, round_of r K, through round_again here, sym (k ∙ q))) (λ k. opens_through round_out (next_opens (star r e) K p k))
      (role_next linked e (round_of r K) p n)

  -- a star at a vocabulary term is finished where it is entered
  star_opens : (e : Expr) (K : Context) {t b : ℕ} → plug e K ≡ rule → IsStar (own e) → Voc s t →
      Next (along L s g) (last e) b → OpensRecord s (entered e K t) b
  star_opens (star r a) K p q v n = opens_through (round_empty v) (next_opens (star r a) K p n)
  star_opens (step _ _ _) K p q v n = elim q [ ]
  star_opens (tested _ _ _) K p q v n = elim q [ ]
  star_opens (sequence _ _ _) K p q v n = elim q [ ]
  star_opens (choice _ _ _) K p q v n = elim q [ ]

  -- What may be entered where the walk stands, free moves of its state lead to.
  pub enters_opens : {y : State} {t : ℕ} {z : Option ℕ} {b : ℕ} → Stands rule z t y → Enters (along L s g) rs L.first t z b → OpensRecord s y b
  enters_opens at_begin (begin h) = (rule, whole, here, omega (arith, rule_last x))
  enters_opens (at_end {e} {K} p q) (after n) = next_opens e K p (rw (← q) at n)
  enters_opens {t = t} stands (inward i h m) =
      let (e, K, o, q) = enters_opens stands i in
      let p = opens_rule o ∙ stands_rule stands in
      opens_on (stands_place stands) o (works_open s e K t (rw (record_works x linked e K p) at (rw (← q) at m)))
  enters_opens stands (past i kind h v n) =
      let (e, K, o, q) = enters_opens stands i in
      let p = opens_rule o ∙ stands_rule stands in
      opens_on (stands_place stands) o (star_opens e K p (rw (← own_record x e K p, q, kind) tt) v (rw (← q) at n))

module _ {rs : List Rec} {rule : Expr} {L : Links} (x : Expression rs rule) (linked : Linked rule L) (s : Site) (g : Goal) where
  -- the record whose row a subexpression copies is entered where it is
  copy_enters : {z : Option ℕ} {t b : ℕ} (e : Expr) (K : Context) → plug e K ≡ rule → Memᴰ (copying b) (works e) →
      Enters (along L s g) rs L.first t z (last e) → Enters (along L s g) rs L.first t z b
  copy_enters {b = b} e K p m i = inward {b = b} i (node_record x e K p) (rw (record_works x linked e K p) m)

  -- what comes next is the record before that below which a subexpression has its role
  before_next : {b : ℕ} (e : Expr) (K : Context) → plug e K ≡ rule → up_of K - 1 ≡ b →
      Next (along L s g) (last e) (get_or L.up (last e) 0 - 1) → Next (along L s g) (last e) b
  before_next e K p q = subst (λ c. Next (along L s g) (last e) c) (ap (λ c. c - 1) (linked.ups e K p) ∙ q)

  -- a free move leads to what is admitted
  free_admits : (z : Option ℕ) {v w : State} → Free s v w → rule_of v ≡ rule → Admits (along L s g) rs L.first z v → Admits (along L s g) rs L.first z w
  free_admits z (sequence_in {r} {a} {b} {K}) p i = copy_enters (sequence r a b) K p (Memᴰ.head refl) i
  free_admits z (sequence_on {r} {a} {b} {K}) p f =
      let q = operand_before x.numbered (sequence r a b) K p in
      f (last b) (before_next a (first_of r b K) p q (on (linked.roles a (first_of r b K) p)))
  free_admits z (sequence_out {r} {a} {b} {K}) p f =
      λ c n. f c (next_as linked (sequence r a b) b K (second_of r a K) p p refl refl n)
  free_admits z (one_in {r} {a} {b} {K}) p i = copy_enters (choice r a b) K p (Memᴰ.head refl) i
  free_admits z (one_out {r} {a} {b} {K}) p f =
      λ c n. f c (next_as linked (choice r a b) a K (one_of r b K) p p refl refl n)
  free_admits z (other_in {r} {a} {b} {K}) p i = copy_enters (choice r a b) K p (Memᴰ.tail (Memᴰ.head refl)) i
  free_admits z (other_out {r} {a} {b} {K}) p f =
      λ c n. f c (next_as linked (choice r a b) b K (other_of r a K) p p refl refl n)
  free_admits z (round_in {r} {a} {K}) p i = copy_enters (star r a) K p (Memᴰ.head refl) i
  free_admits z (round_empty {r} {a} {K} v) p i = λ c n. past i (own_record x (star r a) K p) (node_record x (star r a) K p) v n
  free_admits z (round_again {r} {a} {K}) p f =
      let q = operand_before x.numbered (star r a) K p in
      f (last a) (before_next a (round_of r K) p q (again (linked.roles a (round_of r K) p)))
  free_admits z (round_out {r} {a} {K}) p f = λ c n. f c (ending {b = c} (linked.roles a (round_of r K) p) (rw (linked.ups a (round_of r K) p) n))

  opens_admits : (z : Option ℕ) {v : State} {e : Expr} {K : Context} → Opens s v e K → rule_of v ≡ rule → Admits (along L s g) rs L.first z v →
      Enters (along L s g) rs L.first (place v) z (last e)
  opens_admits z here p i = i
  opens_admits z (through f o) p i = rw (← (free_keeps f).0) (opens_admits z o ((free_keeps f).1 ∙ p) (free_admits z f p i))

  stands_admits : {z : Option ℕ} {t : ℕ} {y : State} → Stands rule z t y → Admits (along L s g) rs L.first z y
  stands_admits at_begin = begin {b = last rule} (rule_last x)
  stands_admits (at_end p q) = λ b n. after (rw q at n)

  -- What free moves of its state lead to may be entered where the walk stands.
  pub opens_enters : {z : Option ℕ} {t : ℕ} {y : State} {e : Expr} {K : Context} → Stands rule z t y → Opens s y e K →
      Enters (along L s g) rs L.first t z (last e)
  opens_enters {z} stands o = rw (← stands_place stands) (opens_admits z o (stands_rule stands) (stands_admits stands))
