-- `calls::ceiling::ceiling` meets its contract: what was turned away is refused, and for what was read the ceiling is told.
use mathlib.Core.Path.{◌≡◌, refl}
use native.Mathlib.Omega.{arith}
use borrow.Author.Rules.{rules}
use Rattle.std.specs.Prelude.{Err}
use Rattle.meaning.specs.Limits.{terms, records}
use Rattle.calls.proofs.Limiting.{limit_turned, limit_given, limit_small}
use Rattle.calls.proofs.ceiling.ceiling.Goals as goal

pub returns-in_err-query : goal.returns-in_err-query
returns-in_err-query c =
    let gone : c.from_residual.result ≡ Err c.in_err-query.field-0.0 = search rules in
    rw gone (limit_turned (c.in_err-query.ensures.refused _ refl))

pub overflow_mul-result : goal.overflow_mul-result
unfolding terms records
overflow_mul-result c = omega (arith, limit_small c.in_ok-query.query.read c.different_terms.ensures.1)

pub returns : goal.returns
returns c =
    let sound = c.in_ok-query.ensures.ready _ refl in
    rw (← sound.site, ← sound.rule) (limit_given c.in_ok-query.query.read c.different_terms.ensures.0)
