-- The terms of a query (document 01, refusal 14).
-- A start has place 0, an end place 1, by its role and not by its position in a call.
use Rattle.std.specs.Prelude.{ℕ, cond, ltb, Result, Ok, Err}
use Rattle.meaning.specs.Limits.{terms}
use Rattle.records.specs.declared.Reason.TheVariants.{QueryTerm}
use Rattle.records.specs.declared.Refusal.{Refusal}

-- the term, or refusal 14 at the place
unfoldable pub query_term : ℕ → ℕ → Result ℕ Refusal
query_term t place = cond (ltb t terms) (Ok t) (Err (record { reason = QueryTerm; place = place }))
