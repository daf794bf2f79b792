-- The links of a rule, from the last record to the first: what is stored for one subexpression spoils no other's, since a record
-- number names one, and it has its own before its operands take it over. `LinkingOf` is the invariant of the loop of `link`.
use Prim.Native.Nat.{ℕ, ◌+◌, ◌-◌, ◌≤◌, ◌<◌}
use mathlib.Core.Path.{◌≡◌, refl, sym, ap, subst, ◌∙◌}
use mathlib.Core.Logic.{◌⊎◌, inl, inr, ⊎_elim, ◌≢◌}
use mathlib.Core.List.{List}
use native.Mathlib.Omega.{arith}
use native.Mathlib.Decide.{ℕ_discrete, dec_lt}
use lib.ListN.{length, get_or, set, replicate, length-set}
use lib.Seq.{get_or-set_same, get_or-set_other}
use Rattle.meaning.specs.Limits.{records}
use Rattle.meaning.specs.Expression.{Rec, Expr, step, tested, sequence, choice, star, last, size, Numbered, Expression, Context, whole, test, first_of, second_of, one_of, other_of, round_of, plug}
use Rattle.meaning.proofs.Names.{last_number, operand_last, numbered_node, node_below, one_node}
use Rattle.meaning.proofs.Postfix.{expression_long, node_at, leaves_expression}
use Rattle.std.specs.Prelude.{Ok}
use Rattle.records.specs.Rules.{RuleChecked, records_of}
use Rattle.records.proofs.Starts.{front_none}
use Rattle.records.proofs.Checked.{rule_leaves}
use Rattle.fewest.specs.Frame.{as_whole, as_round, role_of, up_of, Links, links, Linked}
use Rattle.fewest.specs.LinksOf.{stand, begin, Stood, LinksOf}
use Rattle.fewest.proofs.Places.{stored}
use Rattle.fewest.proofs.Operands.{Right, standing_of, stood_node}

-- the record of its parent, 0 for the whole rule
abbrev parent_of : Context → ℕ
parent_of whole = 0
parent_of (test r a K) = r
parent_of (first_of r b K) = r
parent_of (second_of r a K) = r
parent_of (one_of r b K) = r
parent_of (other_of r a K) = r
parent_of (round_of r K) = r

-- A subexpression is the whole rule, or its parent's record comes after its own and is one of the rule's.
above : (e : Expr) (K : Context) → Numbered 0 (plug e K) → (K ≡ whole) ⊎ ((last e < parent_of K) × (parent_of K < size (plug e K)))
above e whole h = inl refl
above e (test r a K) h =
    let (n, m) = numbered_node (tested r a e) K h in inr (omega (arith, operand_last n e m.0 m.1), node_below (tested r a e) K h)
above e (first_of r b K) h =
    let (n, m) = numbered_node (sequence r e b) K h in inr (omega (arith, last_number n e m.0), node_below (sequence r e b) K h)
above e (second_of r a K) h =
    let (n, m) = numbered_node (sequence r a e) K h in
    inr (omega (arith, operand_last (n + size a) e m.1 m.2), node_below (sequence r a e) K h)
above e (one_of r b K) h =
    let (n, m) = numbered_node (choice r e b) K h in inr (omega (arith, last_number n e m.0), node_below (choice r e b) K h)
above e (other_of r a K) h =
    let (n, m) = numbered_node (choice r a e) K h in
    inr (omega (arith, operand_last (n + size a) e m.1 m.2), node_below (choice r a e) K h)
above e (round_of r K) h =
    let (n, m) = numbered_node (star r e) K h in inr (omega (arith, operand_last n e m.0 m.1), node_below (star r e) K h)

-- So does the record below which it stands, if it does not stand as the whole rule.
parent : (e : Expr) (K : Context) → Numbered 0 (plug e K) → role_of K ≢ as_whole → (last e < parent_of K) × (parent_of K < size (plug e K))
parent e K h other = ⊎_elim (λ w. absurd (other (ap role_of w))) (λ z. z) (above e K h)

over : (e : Expr) (K : Context) → Numbered 0 (plug e K) → role_of K ≢ as_whole → (last e < up_of K) × (up_of K < size (plug e K))
over e whole h other = absurd (other refl)
over e (test r a K) h other = parent e (test r a K) h other
over e (first_of r b K) h other = parent e (first_of r b K) h other
over e (second_of r a K) h other =
    let (later, inside) = over (sequence r a e) K h other in (omega (arith, parent e (second_of r a K) h other), inside)
over e (one_of r b K) h other =
    let (later, inside) = over (choice r e b) K h other in (omega (arith, parent e (one_of r b K) h other), inside)
over e (other_of r a K) h other =
    let (later, inside) = over (choice r a e) K h other in (omega (arith, parent e (other_of r a K) h other), inside)
over e (round_of r K) h other = parent e (round_of r K) h other

-- every role is one of those that are named
role_known : (K : Context) → role_of K ≤ as_round
role_known whole = omega arith
role_known (test r a K) = omega arith
role_known (first_of r b K) = omega arith
role_known (second_of r a K) = role_known K
role_known (one_of r b K) = role_known K
role_known (other_of r a K) = role_known K
role_known (round_of r K) = omega arith

-- a walk up the links climbs, inside so many records
abbrev Higher : ℕ → List ℕ → List ℕ → Type 0
Higher count up role = (k : ℕ) → get_or role k 0 ≢ as_whole → (k < get_or up k 0) × (get_or up k 0 < count)

-- the operands of the records from r on have their entries, and the joins from r on their first operands
pub record Linking (rule : Expr) (r : ℕ) (L : Links) : Type 0 where
  pub ups : length L.up ≡ records
  pub roles : length L.role ≡ records
  pub long : length L.first ≡ records
  pub stands : (e : Expr) (K : Context) → plug e K ≡ rule → (K ≡ whole) ⊎ (r ≤ parent_of K) → Right L e K
  pub sequences : (q : ℕ) (a b : Expr) (K : Context) → plug (sequence q a b) K ≡ rule → r ≤ q → get_or L.first q 0 ≡ last a
  pub choices : (q : ℕ) (a b : Expr) (K : Context) → plug (choice q a b) K ≡ rule → r ≤ q → get_or L.first q 0 ≡ last a
  pub higher : Higher (size rule) L.up L.role
  pub known : (k : ℕ) → get_or L.role k 0 ≤ as_round
  pub firsts : (k : ℕ) → get_or L.first k 0 < size rule

-- At the end of the rule the lists hold 0, which is right for the whole rule.
linking_none : {rule : Expr} {r : ℕ} → Numbered 0 rule → size rule ≤ r →
    Linking rule r (links (replicate records 0) (replicate records 0) (replicate records 0))
linking_none {rule} {r} numbered past = record {
  ups = front_none.long;
  roles = front_none.long;
  long = front_none.long;
  stands = λ e K p c. ⊎_elim (λ w. rw w (front_none.each (last e), front_none.each (last e)))
      (λ z. ⊎_elim (λ w. rw w (front_none.each (last e), front_none.each (last e))) (λ h. absurd (omega (arith, rw p at z.1))) c)
      (above e K (rw p numbered));
  sequences = λ q a b K p h. absurd (omega (arith, rw p at (node_below (sequence q a b) K (rw p numbered))));
  choices = λ q a b K p h. absurd (omega (arith, rw p at (node_below (choice q a b) K (rw p numbered))));
  higher = λ k other. absurd (other (front_none.each k));
  known = λ k. omega (arith, front_none.each k);
  firsts = λ k. omega (arith, front_none.each k, node_below rule whole numbered);
}

-- what holds of every entry holds after a store of which it holds
every_store : (P : ℕ → Type 0) (T : List ℕ) (i v : ℕ) → i < length T → P v → ((k : ℕ) → P (get_or T k 0)) → (k : ℕ) → P (get_or (set T i v) k 0)
every_store P T i v h p old k = ⊎_elim (λ z. rw z.1 p) (λ z. rw z (old k)) (stored T i v h k)

higher_store : {count : ℕ} (up role : List ℕ) (i p s : ℕ) → i < length up → i < length role → (s ≢ as_whole → (i < p) × (p < count)) →
    Higher count up role → Higher count (set up i p) (set role i s)
higher_store up role i p s h j good old k other = elim (ℕ_discrete k i) [
  | yes e ↦
      let u : get_or (set up i p) k 0 ≡ p = rw e (get_or-set_same up i p 0 h) in
      let g = good (λ z. other (rw e (get_or-set_same role i s 0 j ∙ z))) in (omega arith, omega arith)
  | no d ↦ rw (get_or-set_other up i k p 0 d) (old k (rw (get_or-set_other role i k s 0 d) at other))
]

module _ {rule : Expr} (numbered : Numbered 0 rule) (few : size rule ≤ records) where
  -- the record of a subexpression is one of the rule's, so the lists have an entry for it
  within : (e : Expr) (K : Context) → plug e K ≡ rule → last e < size rule
  within e K p = rw p at (node_below e K (rw p numbered))

  inside : (e : Expr) (K : Context) → plug e K ≡ rule → last e < records
  inside e K p = omega (arith, few, within e K p)

  -- what is stored for one subexpression leaves the entries of all right,
  entry_keep : (v : Context → ℕ) (T : List ℕ) (f e : Expr) (F K : Context) → plug f F ≡ rule → plug e K ≡ rule → length T ≡ records →
      get_or T (last e) 0 ≡ v K → get_or (set T (last f) (v F)) (last e) 0 ≡ v K
  entry_keep v T f e F K p q long right =
      ⊎_elim (λ z. z.1 ∙ ap v (sym (one_node numbered e f K F q p z.0).1)) (λ z. z ∙ right)
      (stored T (last f) (v F) (rw long (inside f F p)) (last e))

  stand_keep : {r : ℕ} {L : Links} (f e : Expr) (F K : Context) → plug f F ≡ rule → plug e K ≡ rule → Linking rule r L →
      Right L e K → Right (stand (last f) (up_of F) (role_of F) L) e K
  stand_keep {L = L} f e F K p q l right =
      (entry_keep up_of L.up f e F K p q l.ups right.0, entry_keep role_of L.role f e F K p q l.roles right.1)

  -- and makes its own right.
  stand_make : {r : ℕ} {L : Links} (f : Expr) (F : Context) → plug f F ≡ rule → Linking rule r L →
      Right (stand (last f) (up_of F) (role_of F) L) f F
  stand_make {L = L} f F p l = (
    get_or-set_same L.up (last f) (up_of F) 0 (rw l.ups (inside f F p)),
    get_or-set_same L.role (last f) (role_of F) 0 (rw l.roles (inside f F p)),
  )

  stand_linking : {r : ℕ} {L : Links} (f : Expr) (F : Context) → plug f F ≡ rule → Linking rule r L →
      Linking rule r (stand (last f) (up_of F) (role_of F) L)
  stand_linking {r} {L} f F p l = record {
    ups = simp length-set l.ups;
    roles = simp length-set l.roles;
    long = l.long;
    stands = λ e K q c. stand_keep f e F K p q l (l.stands e K q c);
    sequences = l.sequences;
    choices = l.choices;
    higher = higher_store L.up L.role (last f) (up_of F) (role_of F) (rw l.ups (inside f F p)) (rw l.roles (inside f F p))
        (rw p at (over f F (rw p numbered)))
        l.higher;
    known = every_store (λ s. s ≤ as_round) L.role (last f) (role_of F) (rw l.roles (inside f F p)) (role_known F) l.known;
    firsts = l.firsts;
  }

  -- a join's first operand is stored for itself alone
  begin_linking : {r : ℕ} {L : Links} (q v : ℕ) → q < r → q < records → v < size rule → Linking rule r L → Linking rule r (begin q v L)
  begin_linking {r} {L} q v before room small l = record {
    ups = l.ups;
    roles = l.roles;
    long = simp length-set l.long;
    stands = l.stands;
    sequences = λ k a b K p h. get_or-set_other L.first q k v 0 (λ e. omega arith) ∙ l.sequences k a b K p h;
    choices = λ k a b K p h. get_or-set_other L.first q k v 0 (λ e. omega arith) ∙ l.choices k a b K p h;
    higher = l.higher;
    known = l.known;
    firsts = every_store (λ s. s < size rule) L.first q v (rw l.long room) small l.firsts;
  }

  -- so what is stored for the operands of a record before them spoils nothing
  operands_linking : {r : ℕ} {L : Links} (n : Expr) (N : Context) → plug n N ≡ rule → last n < r → Linking rule r L →
      Linking rule r (standing_of n N L)
  operands_linking (step q a b) N p h l = l
  operands_linking (tested q a x) N p h l = stand_linking x (test q a N) p l
  operands_linking (sequence q a b) N p h l =
      begin_linking q (last a) h (inside (sequence q a b) N p) (within a (first_of q b N) p)
      (stand_linking a (first_of q b N) p (stand_linking b (second_of q a N) p l))
  operands_linking (choice q a b) N p h l =
      begin_linking q (last a) h (inside (choice q a b) N p) (within a (one_of q b N) p)
      (stand_linking a (one_of q b N) p (stand_linking b (other_of q a N) p l))
  operands_linking (star q a) N p h l = stand_linking a (round_of q N) p l

  module _ {r : ℕ} {L L' : Links} (l : Linking rule (r + 1) L)
      (stood : (n : Expr) (N : Context) → plug n N ≡ rule → last n ≡ r → Right L n N → L' ≡ standing_of n N L) where
    -- record r has its own entries, since its parent comes after it
    stores : (n : Expr) (N : Context) → plug n N ≡ rule → last n ≡ r → L' ≡ standing_of n N L
    stores n N p h = stood n N p h (l.stands n N p (⊎_elim inl (λ z. inr (omega arith)) (above n N (rw p numbered))))

    -- the operands of record r have their entries; of no other subexpression is it the parent
    due : (e : Expr) (K : Context) → plug e K ≡ rule → parent_of K ≡ r → (K ≡ whole → Right L' e K) → Right L' e K
    due e whole p h w = w refl
    due e (test q a K) p h w = rw (stores (tested q a e) K p h) (stand_make e (test q a K) p l)
    due e (first_of q b K) p h w =
        rw (stores (sequence q e b) K p h) (stand_make e (first_of q b K) p (stand_linking b (second_of q e K) p l))
    due e (second_of q a K) p h w =
        let C = second_of q a K in
        rw (stores (sequence q a e) K p h) (stand_keep a e (first_of q e K) C p p (stand_linking e C p l) (stand_make e C p l))
    due e (one_of q b K) p h w =
        rw (stores (choice q e b) K p h) (stand_make e (one_of q b K) p (stand_linking b (other_of q e K) p l))
    due e (other_of q a K) p h w =
        let C = other_of q a K in
        rw (stores (choice q a e) K p h) (stand_keep a e (one_of q e K) C p p (stand_linking e C p l) (stand_make e C p l))
    due e (round_of q K) p h w = rw (stores (star q e) K p h) (stand_make e (round_of q K) p l)

    -- One record more: its operands have their entries, and if it is a join it has its first operand.
    linking_more : (n : Expr) (N : Context) → plug n N ≡ rule → last n ≡ r → Linking rule r L'
    linking_more n N p here =
        let kept : Linking rule (r + 1) L' = rw (stores n N p here) (operands_linking n N p (omega arith) l) in
        record {
          ups = kept.ups;
          roles = kept.roles;
          long = kept.long;
          stands = λ e K q. ⊎_elim (λ w. kept.stands e K q (inl w)) (λ h. elim (dec_lt r (parent_of K)) [
            | yes c ↦ kept.stands e K q (inr (omega arith))
            | no c ↦ due e K q (omega arith) (λ w. kept.stands e K q (inl w))
          ]);
          sequences = λ q a b K m h. elim (dec_lt r q) [
            | yes c ↦ kept.sequences q a b K m (omega arith)
            | no c ↦ rw (stores (sequence q a b) K m (omega arith)) (begun q (last a) (inside (sequence q a b) K m))
          ];
          choices = λ q a b K m h. elim (dec_lt r q) [
            | yes c ↦ kept.choices q a b K m (omega arith)
            | no c ↦ rw (stores (choice q a b) K m (omega arith)) (begun q (last a) (inside (choice q a b) K m))
          ];
          higher = kept.higher;
          known = kept.known;
          firsts = kept.firsts;
        }
      where
        begun : (q v : ℕ) → q < records → get_or (set L.first q v) q 0 ≡ v
        begun q v h = get_or-set_same L.first q v 0 (rw l.long h)

-- All records done: the links are the rule's own.
linking_all : {rule : Expr} {r : ℕ} {L : Links} → r ≤ 0 → Linking rule r L → Linked rule L
linking_all end l = record {
  ups = λ e K p. (l.stands e K p (inr (omega arith))).0;
  roles = λ e K p. (l.stands e K p (inr (omega arith))).1;
  sequences = λ q a b K p. l.sequences q a b K p (omega arith);
  choices = λ q a b K p. l.choices q a b K p (omega arith);
}

-- the lists are on the way, for the expression that the records are
abbrev pub LinkingOf : List Rec → ℕ → Links → Type 0
LinkingOf rs r L = (rule : Expr) → Expression rs rule → Linking rule r L

module _ {s : List ℕ} {count : ℕ} (checked : RuleChecked s (Ok count)) where
  -- The loop begins.
  pub linking_begins : LinkingOf (records_of s) count (links (replicate records 0) (replicate records 0) (replicate records 0))
  linking_begins rule x =
      let (leaves, long, few) = rule_leaves checked in
      linking_none x.numbered (omega (arith, expression_long x))

  -- The loop goes on: what one record's part leaves is right for one record more.
  pub linking_on : {r : ℕ} {L L' : Links} → 0 < r → r ≤ count → LinkingOf (records_of s) r L → Stood (records_of s) (r - 1) L L' →
      LinkingOf (records_of s) (r - 1) L'
  linking_on {r} {L} some below done stood rule x =
      let (leaves, long, few) = rule_leaves checked in
      let (n, N, p, h) = node_at x (r - 1) (omega arith) in
      let same : r ≡ r - 1 + 1 = omega arith in
      linking_more x.numbered (omega (arith, expression_long x)) (subst (λ k. Linking rule k L) same (done rule x)) (stood_node x stood) n N p h

  -- The loop is done.
  pub linking_end : {r : ℕ} {L : Links} → r ≤ 0 → LinkingOf (records_of s) r L → LinksOf s count L
  linking_end end done =
      let (leaves, long, few) = rule_leaves checked in
      let (rule, x) = leaves_expression leaves in
      let all = expression_long x in
      let l = done rule x in record {
        linked = λ e y. linking_all end (done e y);
        climbs = record { few = omega arith; higher = λ k h o. ((l.higher k o).0, omega (arith, l.higher k o)); known = λ k h. l.known k };
        inside = λ k h o. omega (arith, l.higher k o);
        firsts = λ k h. omega (arith, l.firsts k);
      }
