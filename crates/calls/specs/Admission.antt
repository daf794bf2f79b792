-- When a call refuses, in document 01's order ("Numbered refusals"): one definition, which every promise cites.
-- 1; then the site record by record; then the rule record by record and 13; then 14, start before end. 15 comes last, in the promises.
use Rattle.std.specs.Prelude.{ℕ, ◌<◌, ◌≤◌, List, [], ◌∷◌, Ok, Err}
use Rattle.meaning.specs.Limits.{terms}
use Rattle.meaning.specs.Expression.{Expr, Expression}
use Rattle.records.specs.declared.Refusal.{Refusal}
use Rattle.records.specs.declared.Reason.TheVariants.{TableLength, QueryTerm}
use Rattle.records.specs.Sites.{Checked}
use Rattle.records.specs.Rules.{RuleChecked, records_of, refusal}

-- a term of the query, and the place of its refusal: 0 for a start, 1 for an end
pub record AskedOf : Type 0 where
  pub term : ℕ
  pub place : ℕ

abbrev pub starting : ℕ → AskedOf
starting t = record { term = t; place = 0 }

abbrev pub ending : ℕ → AskedOf
ending t = record { term = t; place = 1 }

-- the first term of the query that is no term has this place
pub data Amiss : List AskedOf → ℕ → Type 0 where
  here : {q : AskedOf} {qs : List AskedOf} → terms ≤ q.term → Amiss (q ∷ qs) q.place
  later : {q : AskedOf} {qs : List AskedOf} {p : ℕ} → q.term < terms → Amiss qs p → Amiss (q ∷ qs) p

-- each term of the query is a term
pub data Fine : List AskedOf → Type 0 where
  none : Fine []
  also : {q : AskedOf} {qs : List AskedOf} → q.term < terms → Fine qs → Fine (q ∷ qs)

-- the call refuses so; `Fits` says that the lent tables have their lengths
pub data Refuses (Fits : Type 0) (s r : List ℕ) (qs : List AskedOf) : Refusal → Type 0 where
  by_length : (Fits → ⊥) → Refuses Fits s r qs (refusal TableLength 0)
  by_site : {x : Refusal} → Fits → Checked s (Err x) → Refuses Fits s r qs x
  by_rule : {n : ℕ} {x : Refusal} → Fits → Checked s (Ok n) → RuleChecked r (Err x) → Refuses Fits s r qs x
  by_query : {n c p : ℕ} → Fits → Checked s (Ok n) → RuleChecked r (Ok c) → Amiss qs p → Refuses Fits s r qs (refusal QueryTerm p)

-- the call answers: n triples, and the rule's records are the expression e
pub record Admits (Fits : Type 0) (s r : List ℕ) (qs : List AskedOf) (n : ℕ) (e : Expr) : Type 0 where
  pub fits : Fits
  pub count : ℕ
  pub site : Checked s (Ok n)
  pub rule : RuleChecked r (Ok count)
  pub expression : Expression (records_of r) e
  pub query : Fine qs
