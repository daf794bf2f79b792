-- A call refuses in one way or answers for one site and one rule, and never both: its input decides.
-- So the order of refusals in specs/Admission.antt is one order.
use Prim.Native.Nat.{ℕ}
use mathlib.Core.Path.{◌≡◌, refl, ap}
use mathlib.Core.List.{List}
use native.Mathlib.Omega.{arith}
use Rattle.meaning.specs.Expression.{Expr}
use Rattle.meaning.proofs.Postfix.{one_expression}
use Rattle.records.specs.declared.Refusal.{Refusal}
use Rattle.records.specs.declared.Reason.TheVariants.{QueryTerm}
use Rattle.std.specs.Prelude.{Ok, Err}
use Rattle.records.specs.Sites.{Checked}
use Rattle.records.specs.Rules.{RuleChecked, refusal}
use Rattle.records.proofs.Sites.{checked_unique}
use Rattle.records.proofs.Checked.{reads_unique}
use Rattle.calls.specs.Admission.{AskedOf, Amiss, here, later, Fine, none, also, Refuses, by_length, by_site, by_rule, by_query, Admits}

-- the place of a query's refusal is one place
amiss_unique : {qs : List AskedOf} {p q : ℕ} → Amiss qs p → Amiss qs q → p ≡ q
amiss_unique (here h) (here k) = refl
amiss_unique (here h) (later k b) = absurd (omega arith)
amiss_unique (later h a) (here k) = absurd (omega arith)
amiss_unique (later h a) (later k b) = amiss_unique a b

-- a query that is refused is not fine
fine_amiss : {qs : List AskedOf} {p : ℕ} → Fine qs → Amiss qs p → ⊥
fine_amiss (also h f) (here k) = omega arith
fine_amiss (also h f) (later k a) = fine_amiss f a
fine_amiss none x = elim x [ ]

-- a site that is refused is not read, nor is a rule
site_apart : {s : List ℕ} {n : ℕ} {x : Refusal} → Checked s (Ok n) → Checked s (Err x) → ⊥
site_apart p q = let e = checked_unique p q in let z : ◌≡◌ {A = ℕ} 0 1 = cc in omega arith

rule_apart : {r : List ℕ} {n : ℕ} {x : Refusal} → RuleChecked r (Ok n) → RuleChecked r (Err x) → ⊥
rule_apart p q = let e = reads_unique p q in let z : ◌≡◌ {A = ℕ} 0 1 = cc in omega arith

module _ {F : Type 0} {s r : List ℕ} {qs : List AskedOf} where
  -- The order of refusals is one: a call refuses in one way.
  pub refuses_unique : {x y : Refusal} → Refuses F s r qs x → Refuses F s r qs y → x ≡ y
  refuses_unique (by_length h) (by_length k) = refl
  refuses_unique (by_length h) (by_site f c) = absurd (h f)
  refuses_unique (by_length h) (by_rule f c d) = absurd (h f)
  refuses_unique (by_length h) (by_query f c d a) = absurd (h f)
  refuses_unique (by_site f c) (by_length h) = absurd (h f)
  refuses_unique (by_site f c) (by_site g d) = cc (checked_unique c d)
  refuses_unique (by_site f c) (by_rule g d k) = absurd (site_apart d c)
  refuses_unique (by_site f c) (by_query g d k a) = absurd (site_apart d c)
  refuses_unique (by_rule f c d) (by_length h) = absurd (h f)
  refuses_unique (by_rule f c d) (by_site g k) = absurd (site_apart c k)
  refuses_unique (by_rule f c d) (by_rule g k l) = cc (reads_unique d l)
  refuses_unique (by_rule f c d) (by_query g k l a) = absurd (rule_apart l d)
  refuses_unique (by_query f c d a) (by_length h) = absurd (h f)
  refuses_unique (by_query f c d a) (by_site g k) = absurd (site_apart c k)
  refuses_unique (by_query f c d a) (by_rule g k l) = absurd (rule_apart d l)
  refuses_unique (by_query f c d a) (by_query g k l b) = ap (refusal QueryTerm) (amiss_unique a b)

  -- A call that refuses does not answer.
  pub refuses_admits : {x : Refusal} {n : ℕ} {e : Expr} → Refuses F s r qs x → Admits F s r qs n e → ⊥
  refuses_admits (by_length h) a = h a.fits
  refuses_admits (by_site f c) a = site_apart a.site c
  refuses_admits (by_rule f c d) a = rule_apart a.rule d
  refuses_admits (by_query f c d q) a = fine_amiss a.query q

-- A call answers for one number of triples and one expression; lengths of tables and the query do not change them.
pub admits_unique : {F G : Type 0} {s r : List ℕ} {ps qs : List AskedOf} {n m : ℕ} {e g : Expr} →
    Admits F s r ps n e → Admits G s r qs m g → (n ≡ m) × (e ≡ g)
admits_unique p q = (cc (checked_unique p.site q.site), one_expression p.expression q.expression)
