-- What an admission tells the call that asked for it: it refuses so, or it answers for an expression, and its work may begin.
-- A call that takes no start or no end has passed 0 in its place, which is a term and never refused.
use Prim.Native.Nat.{ℕ, ◌+◌, ◌<◌, ◌≤◌}
use mathlib.Core.Path.{◌≡◌, ◌∙◌}
use mathlib.Core.List.{List, [], ◌∷◌}
use native.Mathlib.Omega.{arith}
use lib.ListN.{length}
use Rattle.meaning.specs.Limits.{terms, records}
use Rattle.meaning.specs.Expression.{Expr, size, last, Expression}
use Rattle.meaning.proofs.Names.{size_positive, last_number}
use Rattle.meaning.proofs.Postfix.{expression_long, leaves_expression}
use Rattle.records.specs.declared.Refusal.{Refusal}
use Rattle.records.specs.Rules.{records_of}
use Rattle.records.proofs.Sites.{checked_site}
use Rattle.records.proofs.Checked.{rule_leaves}
use Rattle.fewest.specs.Frame.{Links}
use Rattle.fewest.specs.Frame.{Linked}
use Rattle.fewest.specs.Work.{Ready}
use Rattle.fewest.proofs.Readiness.{ready}
use Rattle.calls.specs.Admission.{AskedOf, starting, ending, Amiss, here, later, Fine, none, also, Refuses, by_query, Admits}
use Rattle.calls.specs.Given.{Read, Given}
use Rattle.calls.specs.Inner.{TurnedAway, by_start, by_end}

-- 0 is a term
zero_fits : terms ≤ 0 → ⊥
unfolding terms
zero_fits h = omega arith

module _ {F : Type 0} {s r : List ℕ} (fits : F) where
  -- what is turned away is refused, where the query has a start that is turned away at place 0, and an end at place 1
  refuses : {z v : ℕ} {x : Refusal} (qs : List AskedOf) → (terms ≤ z → Amiss qs 0) → (z < terms → terms ≤ v → Amiss qs 1) →
      TurnedAway s r z v x → Refuses F s r qs x
  refuses qs start end (TurnedAway.by_site c) = Refuses.by_site fits c
  refuses qs start end (TurnedAway.by_rule c d) = Refuses.by_rule fits c d
  refuses qs start end (by_start c d h) = by_query fits c d (start h)
  refuses qs start end (by_end c d h k) = by_query fits c d (end h k)

  -- A call that is turned away refuses so:
  pub turned_refuses : {z v : ℕ} {x : Refusal} → TurnedAway s r z v x → Refuses F s r (starting z ∷ (ending v ∷ [])) x
  turned_refuses = refuses _ here (λ h k. later h (here k))

  -- one that takes no end,
  pub turned_refuses_start : {z : ℕ} {x : Refusal} → TurnedAway s r z 0 x → Refuses F s r (starting z ∷ []) x
  turned_refuses_start = refuses _ here (λ h k. absurd (zero_fits k))

  -- one that takes no start,
  pub turned_refuses_end : {v : ℕ} {x : Refusal} → TurnedAway s r 0 v x → Refuses F s r (ending v ∷ []) x
  turned_refuses_end = refuses _ (λ h. absurd (zero_fits h)) (λ h k. here k)

  -- and one that takes neither.
  pub turned_refuses_none : {x : Refusal} → TurnedAway s r 0 0 x → Refuses F s r [] x
  turned_refuses_none = refuses _ (λ h. absurd (zero_fits h)) (λ h k. absurd (zero_fits k))

module _ {s r : List ℕ} {n c : ℕ} {starts : List ℕ} (read : Read s r n c starts) where
  -- The records of the rule are an expression.
  pub read_expression : (e : Expr) × Expression (records_of r) e
  read_expression = leaves_expression (rule_leaves read.rule).0

  -- The count is the number of its records,
  pub read_counted : c ≡ length (records_of r)
  read_counted = (rule_leaves read.rule).1

  -- which is the expression's size,
  pub read_size : {e : Expr} → Expression (records_of r) e → c ≡ size e
  read_size x = read_counted ∙ expression_long x

  -- one more than the number of its last record,
  pub read_last : {e : Expr} → Expression (records_of r) e → last e + 1 ≡ c
  read_last {e} x = omega (arith, last_number 0 e x.numbered, read_size x)

  -- and not 0.
  pub read_some : 0 < c
  read_some = let (e, x) = read_expression in omega (arith, size_positive e, read_size x)

  -- They are few enough.
  pub read_few : c ≤ records
  read_few = (rule_leaves read.rule).2

module _ {s r : List ℕ} {n c : ℕ} {starts : List ℕ} {L : Links} (given : Given s r n c starts L) where
  -- The links are the expression's,
  pub given_linked : {e : Expr} → Expression (records_of r) e → Linked e L
  given_linked x = given.links.linked _ x

  -- and the sweeps may begin.
  pub given_ready : Ready s n r starts c L.up L.role L.first
  given_ready =
      let read = given.read in
      ready {x = record { count = c; starts = starts }} (checked_site read.site) (record { answer = read.rule; starts = read.places }) given.links

module _ {F : Type 0} {s r : List ℕ} {n c : ℕ} {starts : List ℕ} (fits : F) (read : Read s r n c starts) where
  -- where the query's terms are terms, the call answers
  admits : {qs : List AskedOf} → Fine qs → (e : Expr) × Admits F s r qs n e
  admits fine =
      let (e, x) = read_expression read in
      (e, record { fits = fits; count = c; site = read.site; rule = read.rule; expression = x; query = fine })

  -- A call that is given a site and a rule answers for the expression of the rule's records:
  pub read_admits : {z v : ℕ} → z < terms → v < terms → (e : Expr) × Admits F s r (starting z ∷ (ending v ∷ [])) n e
  read_admits start end = admits (also start (also end none))

  -- one that takes no end,
  pub read_admits_start : {z : ℕ} → z < terms → (e : Expr) × Admits F s r (starting z ∷ []) n e
  read_admits_start start = admits (also start none)

  -- one that takes no start,
  pub read_admits_end : {v : ℕ} → v < terms → (e : Expr) × Admits F s r (ending v ∷ []) n e
  read_admits_end end = admits (also end none)

  -- and one that takes neither.
  pub read_admits_none : (e : Expr) × Admits F s r [] n e
  read_admits_none = admits none
