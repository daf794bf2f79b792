-- What may follow a finished subexpression, told by role and parent, is what its context says is left.
-- The numbers of the lists meet the expression here and in Works.antt, and nowhere else.
use Prim.Native.Nat.{ℕ, zero, suc, ◌+◌, ◌-◌, ◌<◌, ◌≤◌}
use mathlib.Core.Path.{◌≡◌, refl, sym, subst, subst₂}
use mathlib.Core.Logic.{◌⊎◌, inl, inr, ⊎_elim}
use mathlib.Core.List.{List, []}
use native.Mathlib.Omega.{arith}
use lib.ListN.{get_or}
use Rattle.meaning.specs.Limits.{terms, none}
use Rattle.meaning.specs.Site.{Site}
use Rattle.meaning.specs.Expression.{Expr, step, tested, sequence, choice, star, last, size, Numbered, Context, whole, test, first_of, second_of, one_of, other_of, round_of, plug}
use Rattle.meaning.specs.Fewest.{Goal, finished, sequence_on, sequence_out, one_out, other_out, round_again, round_out, home, held}
use Rattle.meaning.specs.Left.{home_left, left, Leads, Sound}
use Rattle.meaning.proofs.Exact.{leads_free}
use Rattle.meaning.proofs.Names.{operand_last, numbered_node}
use Rattle.meaning.proofs.None.{min_either, home_meets}
use Rattle.fewest.specs.Frame.{role_of, up_of, Links, Linked, Frame, frame}
use Rattle.fewest.specs.Offer.{view, Continues, home, held, on, again, ending}

-- what a record's role says of the number v of steps that may follow, where p is the record below which it has it; the roles
-- are as_whole to as_round, in the order of their numbers
abbrev pub Says : Frame → List ℕ → (p u v : ℕ) → ℕ → Type 0
Says F T p u v zero = v ≡ home_left F.goal u
Says F T p u v (suc zero) = v ≡ 0
Says F T p u v (suc (suc zero)) = v ≡ view T (p - 1) u
Says F T p u v (suc (suc (suc zero))) = (v ≡ view T (p - 1) u) ⊎ Continues F T p u v
Says F T p u v (suc (suc (suc (suc k)))) = ⊥

module _ {F : Frame} {T : List ℕ} where
  pub continues_says : {r u v : ℕ} → Continues F T r u v → Says F T (get_or F.up r 0) u v (get_or F.role r 0)
  continues_says (home q) = rw q refl
  continues_says (held q) = rw q refl
  continues_says (on q) = rw q refl
  continues_says (again q) = rw q (inl refl)
  continues_says (ending q c) = rw q (inr c)

  -- where the role is known
  pub continues_at : {r u v : ℕ} (k : ℕ) → get_or F.role r 0 ≡ k → Continues F T r u v → Says F T (get_or F.up r 0) u v k
  continues_at {r} {u} {v} k q c = subst (λ k. Says F T (get_or F.up r 0) u v k) q (continues_says c)

  pub says_continues : {r u v : ℕ} (k : ℕ) → get_or F.role r 0 ≡ k → Says F T (get_or F.up r 0) u v k → Continues F T r u v
  says_continues zero q e = rw e (home q)
  says_continues (suc zero) q e = rw e (held q)
  says_continues (suc (suc zero)) q e = rw e (on q)
  says_continues (suc (suc (suc zero))) q (inl e) = rw e (again q)
  says_continues (suc (suc (suc zero))) q (inr c) = ending q c
  says_continues (suc (suc (suc (suc _)))) q e = elim e [ ]

-- the last record of the operand that comes last (a plain or named step has none, and it does not matter what stands there)
abbrev pub last_operand : Expr → ℕ
last_operand (step r a l) = r - 1
last_operand (tested r a x) = last x
last_operand (sequence r a b) = last b
last_operand (choice r a b) = last b
last_operand (star r a) = last a

before : (n : ℕ) (e : Expr) → Numbered n e → last e - 1 ≡ last_operand e
before n (step r a l) h = refl
before n (tested r a x) h = omega (arith, operand_last n x h.0 h.1)
before n (sequence r a b) h = omega (arith, operand_last (n + size a) b h.1 h.2)
before n (choice r a b) h = omega (arith, operand_last (n + size a) b h.1 h.2)
before n (star r a) h = omega (arith, operand_last n a h.0 h.1)

-- In a rule the record before a subexpression's own is that of its last operand.
pub operand_before : {rule : Expr} → Numbered 0 rule → (e : Expr) (K : Context) → plug e K ≡ rule → last e - 1 ≡ last_operand e
operand_before h e K p = let (n, i) = numbered_node e K (rw p h) in before n e i

-- what a walk that follows these links is about
abbrev pub along : Links → Site → Goal → Frame
along L s g = frame s L.up L.role g

module _ {rule : Expr} {L : Links} (numbered : Numbered 0 rule) (linked : Linked rule L) {s : Site} {g : Goal} {T : List ℕ} where
  -- the lists say what the context does
  role_says : (e : Expr) (K : Context) {u v : ℕ} → plug e K ≡ rule → Continues (along L s g) T (last e) u v →
      Says (along L s g) T (up_of K) u v (role_of K)
  role_says e K {u} {v} p c = subst₂ (λ q k. Says (along L s g) T q u v k) (linked.ups e K p) (linked.roles e K p) (continues_says c)

  says_role : (e : Expr) (K : Context) {u v : ℕ} → plug e K ≡ rule → Says (along L s g) T (up_of K) u v (role_of K) →
      Continues (along L s g) T (last e) u v
  says_role e K {u} {v} p c =
      says_continues (role_of K) (linked.roles e K p) (subst (λ q. Says (along L s g) T q u v (role_of K)) (sym (linked.ups e K p)) c)

  -- what finishes with its parent is followed as its parent is, since its entries say the same
  as_parent : (e f : Expr) (K J : Context) {u v : ℕ} → plug e K ≡ rule → plug f J ≡ rule → up_of K ≡ up_of J → role_of K ≡ role_of J →
      Continues (along L s g) T (last e) u v → Continues (along L s g) T (last f) u v
  as_parent e f K J {u} {v} p q h k c = says_role f J q (subst₂ (λ q k. Says (along L s g) T q u v k) h k (role_says e K p c))

  -- What is left may follow.
  pub left_continues : (e : Expr) (K : Context) → plug e K ≡ rule → (u : ℕ) → Continues (along L s g) T (last e) u (left (view T) g e K u)
  left_continues e whole p u = says_role e whole p refl
  left_continues e (test r a K) p u = says_role e (test r a K) p refl
  left_continues e (first_of r b K) p u = says_role e (first_of r b K) p (rw (operand_before numbered (sequence r e b) K p))
  left_continues e (second_of r a K) p u = as_parent (sequence r a e) e K (second_of r a K) p p refl refl (left_continues (sequence r a e) K p u)
  left_continues e (one_of r b K) p u = as_parent (choice r e b) e K (one_of r b K) p p refl refl (left_continues (choice r e b) K p u)
  left_continues e (other_of r a K) p u = as_parent (choice r a e) e K (other_of r a K) p p refl refl (left_continues (choice r a e) K p u)
  left_continues e (round_of r K) p u =
      says_role e (round_of r K) p (⊎_elim (λ q. inl (rw (operand_before numbered (star r e) K p) q)) (λ q. inr (rw q (left_continues (star r e) K p u)))
      (min_either (view T (last e) u) (left (view T) g (star r e) K u)))

  -- What may follow is no less than what is left.
  pub continues_left : (e : Expr) (K : Context) {u v : ℕ} → plug e K ≡ rule → Continues (along L s g) T (last e) u v →
      left (view T) g e K u ≤ v
  continues_left e whole p c = let k = role_says e whole p c in omega arith
  continues_left e (test r a K) p c = omega arith
  continues_left e (first_of r b K) p c =
      let k = role_says e (first_of r b K) p c in
      rw (← operand_before numbered (sequence r e b) K p) (omega arith)
  continues_left e (second_of r a K) p c = continues_left (sequence r a e) K p (as_parent e (sequence r a e) (second_of r a K) K p p refl refl c)
  continues_left e (one_of r b K) p c = continues_left (choice r e b) K p (as_parent e (choice r e b) (one_of r b K) K p p refl refl c)
  continues_left e (other_of r a K) p c = continues_left (choice r a e) K p (as_parent e (choice r a e) (other_of r a K) K p p refl refl c)
  continues_left e (round_of r K) p c =
      rw (← operand_before numbered (star r e) K p)
      (⊎_elim (λ k. omega arith) (λ k. omega (arith, continues_left (star r e) K p k)) (role_says e (round_of r K) p c))

  -- In a sound table what may follow has its way.
  pub continues_leads : Sound s g rule (view T) → (e : Expr) (K : Context) {u v : ℕ} → plug e K ≡ rule → u < terms →
      Continues (along L s g) T (last e) u v → v < none → Leads s g (finished e K u) v
  continues_leads sound e whole {u} {v} p b c h =
      let k : v ≡ home_left g u = role_says e whole p c in
      let m = home_meets g u (omega arith) in
      ([], home m.0, omega arith)
  continues_leads sound e (test r a K) p b c h = ([], held, sym (role_says e (test r a K) p c))
  continues_leads sound e (first_of r f K) {u} {v} p b c h =
      let k : v ≡ view T (last f) u = rw (← operand_before numbered (sequence r e f) K p) (role_says e (first_of r f K) p c) in
      rw k (leads_free sequence_on (sound.leads f (second_of r e K) p u b (omega arith)))
  continues_leads sound e (second_of r a K) p b c h =
      leads_free sequence_out (continues_leads sound (sequence r a e) K p b (as_parent e (sequence r a e) (second_of r a K) K p p refl refl c) h)
  continues_leads sound e (one_of r f K) p b c h =
      leads_free one_out (continues_leads sound (choice r e f) K p b (as_parent e (choice r e f) (one_of r f K) K p p refl refl c) h)
  continues_leads sound e (other_of r a K) p b c h =
      leads_free other_out (continues_leads sound (choice r a e) K p b (as_parent e (choice r a e) (other_of r a K) K p p refl refl c) h)
  continues_leads sound e (round_of r K) {u} {v} p b c h =
      ⊎_elim
      (λ k. let same : v ≡ view T (last e) u = rw (← operand_before numbered (star r e) K p) k in
      rw same (leads_free round_again (sound.leads e (round_of r K) p u b (omega arith))))
      (λ k. leads_free round_out (continues_leads sound (star r e) K p b k h)) (role_says e (round_of r K) p c)
