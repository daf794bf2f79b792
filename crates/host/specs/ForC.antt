-- What each call for C promises: there is an outcome that the promise of its namesake allows (calls/specs/Promise, tables and
-- room as bytes, which also says what they hold afterwards), and the struct is that outcome laid out.
use Rattle.std.specs.Prelude.{ℕ, ◌≡◌, List, Result}
use Rattle.records.specs.declared.Refusal.{Refusal}
use Rattle.calls.specs.declared.Answer.{Answer}
use Rattle.calls.specs.declared.Found.{Found}
use Rattle.calls.specs.Promise.{as_bytes, Decided, Ended, Started, Limited}
use Rattle.calls.specs.Values.{decision_values, end_values, start_values, limit_values}
use Rattle.host.specs.declared.layout.DecisionForC.{DecisionForC}
use Rattle.host.specs.declared.layout.EndsForC.{EndsForC}
use Rattle.host.specs.declared.layout.StartsForC.{StartsForC}
use Rattle.host.specs.declared.layout.CeilingForC.{CeilingForC}
use Rattle.host.specs.Layout.{decision_of, ends_of, starts_of, ceiling_of}

pub record DecidedForC (s r : List ℕ) (z v : ℕ) (asked numbers room asked' numbers' room' : List ℕ) (x : DecisionForC) : Type 0 where
  pub outcome : Result Answer Refusal
  pub promised : Decided as_bytes s r z v asked numbers room asked' numbers' room' outcome
  pub laid : x ≡ decision_of (decision_values outcome)

pub record EndedForC (s r : List ℕ) (z : ℕ) (asked numbers third asked' numbers' third' : List ℕ) (x : EndsForC) : Type 0 where
  pub outcome : Result Found Refusal
  pub promised : Ended as_bytes s r z asked numbers third asked' numbers' third' outcome
  pub laid : x ≡ ends_of (end_values outcome)

pub record StartedForC (s r : List ℕ) (v : ℕ) (asked numbers third asked' numbers' third' : List ℕ) (x : StartsForC) : Type 0 where
  pub outcome : Result ℕ Refusal
  pub promised : Started as_bytes s r v asked numbers third asked' numbers' third' outcome
  pub laid : x ≡ starts_of (start_values outcome)

pub record LimitedForC (s r : List ℕ) (x : CeilingForC) : Type 0 where
  pub outcome : Result ℕ Refusal
  pub promised : Limited s r outcome
  pub laid : x ≡ ceiling_of (limit_values outcome)
