-- How `admit` comes to its answer: what was read goes on, and the first refusal goes out.
use Prim.Native.Nat.{ℕ, ◌<◌, ◌≤◌}
use mathlib.Core.Path.{◌≡◌, subst}
use mathlib.Core.Logic.{◌⊎◌, inl, inr, ⊎_elim}
use mathlib.Core.List.{List}
use native.Mathlib.Omega.{arith}
use native.Mathlib.Decide.{dec_lt}
use borrow.Author.Tests.{lt-ltb, le-ltb}
use Rattle.std.specs.Prelude.{Result, Ok, Err}
use Rattle.meaning.specs.Limits.{terms}
use Rattle.records.specs.declared.Refusal.{Refusal}
use Rattle.records.specs.declared.Reason.TheVariants.{QueryTerm}
use Rattle.records.specs.Rules.{refusal}
use Rattle.records.specs.Queries.{query_term}
use Rattle.calls.specs.declared.query.Query.{Query}
use Rattle.calls.specs.Inner.{TurnedAway, SoundQuery, Admitted}

-- What is turned away is never ready.
pub turned : {s r : List ℕ} {z v : ℕ} {a : Result Query Refusal} {x : Refusal} → a ≡ Err x → TurnedAway s r z v x → Admitted s r z v a
turned {s} {r} {z} {v} {a} {x} out away = record {
  ready = λ q e. let never : ◌≡◌ {A = ℕ} 0 1 = cc in absurd (omega arith);
  refused = λ y e. let same : x ≡ y = cc in subst (λ (u : Refusal). TurnedAway s r z v u) same away;
}

-- What is ready is never turned away.
pub ready : {s r : List ℕ} {z v : ℕ} {q : Query} → SoundQuery s r z v q → Admitted s r z v (Ok q)
ready {s} {r} {z} {v} {q} sound = record {
  ready = λ p e. let same : q ≡ p = cc in subst (λ (u : Query). SoundQuery s r z v u) same sound;
  refused = λ x e. let never : ◌≡◌ {A = ℕ} 0 1 = cc in absurd (omega arith);
}

-- a number is a term and read, or no term and refused
term_told : (t place : ℕ) → ((query_term t place ≡ Ok t) × (t < terms)) ⊎ ((query_term t place ≡ Err (refusal QueryTerm place)) × (terms ≤ t))
unfolding query_term
term_told t place = elim (dec_lt t terms) [
  | yes h ↦ inl (simp (lt-ltb _ _ h), h)
  | no h ↦ let above : terms ≤ t = omega arith in inr (simp (le-ltb _ _ above), above)
]

-- A number that is read as a query's term is that term,
pub term_read : (t place : ℕ) {u : ℕ} → Ok u ≡ query_term t place → (u ≡ t) × (t < terms)
term_read t place e =
    ⊎_elim (λ w. (cc, w.1)) (λ w. let never : ◌≡◌ {A = ℕ} 0 1 = cc in absurd (omega arith)) (term_told t place)

-- and one that is refused is no term.
pub term_refused : (t place : ℕ) {x : Refusal} → Err x ≡ query_term t place →
    (x ≡ refusal QueryTerm place) × (terms ≤ t)
term_refused t place e =
    ⊎_elim (λ w. let never : ◌≡◌ {A = ℕ} 0 1 = cc in absurd (omega arith)) (λ w. (cc, w.1)) (term_told t place)
