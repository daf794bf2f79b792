-- That a site and a rule were read is one fact, so that a query may keep it: it has one proof at most.
-- Each place is read in one way, so two readings are the same step by step.
use Rattle.std.specs.Prelude.{ℕ, ◌+◌, ◌*◌, ◌≡◌, ◌≢◌, List, Some, None, Result, Ok, Err}
use Rattle.std.proofs.Props.{props}
use mathlib.Core.Path.{refl, ap, subst, subst₂, PathP}
use mathlib.Core.HLevel.{is_prop→PathP}
use native.Mathlib.Omega.{arith}
use Rattle.records.specs.declared.Triple.{Triple}
use Rattle.records.specs.declared.Record.{Record}
use Rattle.records.specs.declared.Refusal.{Refusal}
use Rattle.records.specs.Sites.{SiteFound, SiteRead, triple_width, site_record_at, ended, denied, one_more}
use Rattle.records.specs.Rules.{RuleFound, Reads, rule_record_at, left, one, not_one, refused, read}
use Rattle.calls.specs.Given.{Read}

-- two answers, or two things found, are equal in one way at most
answer_set : IsSet (Result ℕ Refusal)
answer_set = Prim.hlevel props

site_set : IsSet SiteFound
site_set = Prim.hlevel props

rule_set : IsSet RuleFound
rule_set = Prim.hlevel props

equal_once : (a b : ℕ) → IsProp (a ≡ b)
equal_once a b = Prim.hlevel props

apart_once : (a b : ℕ) → IsProp (a ≢ b)
apart_once a b = Prim.hlevel props

-- what is found at one place is one triple, or one record and its next place
same_triple : {x y : Triple} {f g : SiteFound} → f ≡ g → f ≡ Ok (Some x) → g ≡ Ok (Some y) → x ≡ y
same_triple e h k = cc

same_record : {x y : Record × ℕ} → ◌≡◌ {A = RuleFound} (Ok (Some x)) (Ok (Some y)) → x ≡ y
same_record e = cc

same_refusal : {A : Type 0} {x y : Refusal} → ◌≡◌ {A = Result A Refusal} (Err x) (Err y) → x ≡ y
same_refusal e = cc

-- a site is read in one way
site_along : {s : List ℕ} {k j : ℕ} {a b : Result ℕ Refusal} (e : k ≡ j) (f : a ≡ b) (p : SiteRead s k a) (q : SiteRead s j b) →
    PathP (λ i. SiteRead s (e i) (f i)) p q
site_along {s} e f (ended h) (ended g) =
    subst (λ f. PathP (λ i. SiteRead s (e i) (f i)) (ended h) (ended g)) (answer_set _ _ (ap Ok e) f)
    (λ i. ended (is_prop→PathP (λ i. site_record_at s (e i * triple_width) ≡ Ok None) (λ i. site_set _ _) h g i))
site_along {s} e f (denied {x = x} h) (denied {x = y} g) =
    let same = same_refusal {x = x} {y = y} f in
    subst (λ f. PathP (λ i. SiteRead s (e i) (f i)) (denied h) (denied g)) (answer_set _ _ (ap Err same) f)
    (λ i. denied (is_prop→PathP (λ i. site_record_at s (e i * triple_width) ≡ Err (same i)) (λ i. site_set _ _) h g i))
site_along {s} e f (one_more {x = x} h p) (one_more {x = y} g q) =
    let same = same_triple (ap (λ n. site_record_at s (n * triple_width)) e) h g in
    λ i. one_more (is_prop→PathP (λ i. site_record_at s (e i * triple_width) ≡ Ok (Some (same i))) (λ i. site_set _ _) h g i) (site_along (ap (λ n. n + 1) e) f p q i)
site_along e f (ended h) (denied g) = let z : ◌≡◌ {A = ℕ} 0 1 = cc in absurd (omega arith)
site_along e f (denied h) (ended g) = let z : ◌≡◌ {A = ℕ} 0 1 = cc in absurd (omega arith)
site_along {s} e f (ended h) (one_more g q) =
    let found = ap (λ n. site_record_at s (n * triple_width)) e in let z : ◌≡◌ {A = ℕ} 0 1 = cc in absurd (omega arith)
site_along {s} e f (denied h) (one_more g q) =
    let found = ap (λ n. site_record_at s (n * triple_width)) e in let z : ◌≡◌ {A = ℕ} 0 1 = cc in absurd (omega arith)
site_along {s} e f (one_more g q) (ended h) =
    let found = ap (λ n. site_record_at s (n * triple_width)) e in let z : ◌≡◌ {A = ℕ} 0 1 = cc in absurd (omega arith)
site_along {s} e f (one_more g q) (denied h) =
    let found = ap (λ n. site_record_at s (n * triple_width)) e in let z : ◌≡◌ {A = ℕ} 0 1 = cc in absurd (omega arith)

site_once : {s : List ℕ} {k : ℕ} {a : Result ℕ Refusal} → IsProp (SiteRead s k a)
site_once p q = site_along refl refl p q

-- and so is a rule
rule_along : {s : List ℕ} {x y : RuleFound} {c d h g : ℕ} {a b : Result ℕ Refusal} (e : x ≡ y) (k : c ≡ d) (l : h ≡ g) (f : a ≡ b)
    (p : Reads s x c h a) (q : Reads s y d g b) → PathP (λ i. Reads s (e i) (k i) (l i) (f i)) p q
rule_along {s} e k l f (one p) (one q) =
    subst₂ (λ e f. PathP (λ i. Reads s (e i) (k i) (l i) (f i)) (one p) (one q)) (rule_set _ _ refl e) (answer_set _ _ (ap Ok k) f)
    (λ i. one (is_prop→PathP (λ i. l i ≡ 1) (λ i. equal_once _ _) p q i))
rule_along {s} e k l f (not_one p) (not_one q) =
    subst₂ (λ e f. PathP (λ i. Reads s (e i) (k i) (l i) (f i)) (not_one p) (not_one q)) (rule_set _ _ refl e) (answer_set _ _ refl f)
    (λ i. not_one (is_prop→PathP (λ i. l i ≢ 1) (λ i. apart_once _ _) p q i))
rule_along {s} e k l f (refused {f = u}) (refused {f = v}) =
    let same = same_refusal {x = u} {y = v} f in
    subst₂ (λ e f. PathP (λ i. Reads s (e i) (k i) (l i) (f i)) refused refused) (rule_set _ _ (ap Err same) e) (answer_set _ _ (ap Err same) f)
    (λ i. refused)
rule_along {s} e k l f (read {r = r} {on = m} p) (read {r = t} {on = n} q) =
    let same = same_record {x = (r, m)} {y = (t, n)} e in
    subst (λ e. PathP (λ i. Reads s (e i) (k i) (l i) (f i)) (read p) (read q)) (rule_set _ _ (λ i. Ok (Some (same i))) e)
    (λ i. read (rule_along (λ i. rule_record_at s (same i).1 (k i + 1) (left (l i) (same i).0)) (ap (λ n. n + 1) k) (λ i. left (l i) (same i).0) f p q i))
rule_along e k l f (one p) (not_one q) = absurd (q (cc))
rule_along e k l f (one p) refused = let z : ◌≡◌ {A = ℕ} 0 1 = cc in absurd (omega arith)
rule_along e k l f (one p) (read q) = let z : ◌≡◌ {A = ℕ} 0 1 = cc in absurd (omega arith)
rule_along e k l f (not_one p) (one q) = absurd (p (cc))
rule_along e k l f (not_one p) refused = let z : ◌≡◌ {A = ℕ} 0 1 = cc in absurd (omega arith)
rule_along e k l f (not_one p) (read q) = let z : ◌≡◌ {A = ℕ} 0 1 = cc in absurd (omega arith)
rule_along e k l f refused (one q) = let z : ◌≡◌ {A = ℕ} 0 1 = cc in absurd (omega arith)
rule_along e k l f refused (not_one q) = let z : ◌≡◌ {A = ℕ} 0 1 = cc in absurd (omega arith)
rule_along e k l f refused (read q) = let z : ◌≡◌ {A = ℕ} 0 1 = cc in absurd (omega arith)
rule_along e k l f (read p) (one q) = let z : ◌≡◌ {A = ℕ} 0 1 = cc in absurd (omega arith)
rule_along e k l f (read p) (not_one q) = let z : ◌≡◌ {A = ℕ} 0 1 = cc in absurd (omega arith)
rule_along e k l f (read p) refused = let z : ◌≡◌ {A = ℕ} 0 1 = cc in absurd (omega arith)

rule_once : {s : List ℕ} {x : RuleFound} {c h : ℕ} {a : Result ℕ Refusal} → IsProp (Reads s x c h a)
rule_once p q = rule_along refl refl refl refl p q

-- So what a query stands on is one fact.
pub read_once : (s r : List ℕ) (n c : ℕ) (starts : List ℕ) → IsProp (Read s r n c starts)
read_once s r n c starts = Prim.hlevel (props, site_once, rule_once)
