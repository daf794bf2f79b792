-- `calls::lists::ends_bytes` meets its contract: the lengths, then the admission, then the tables decide.
use mathlib.Core.Path.{◌≡◌, refl}
use lib.ListN.{length}
use borrow.Author.Rules.{rules}
use Rattle.std.specs.Prelude.{Err}
use Rattle.meaning.specs.Limits.{terms, records}
use Rattle.fewest.specs.Tells.{Tells}
use Rattle.fewest.proofs.Tells.{told, told_not}
use Rattle.calls.specs.Promise.{as_bytes, Fits}
use Rattle.calls.proofs.Fitting.{fitting}
use Rattle.calls.proofs.Listing.{ends_short, ends_turned, ends_listed}
use Rattle.calls.proofs.lists.ends_bytes.Goals as goal
use Rattle.calls.proofs.lists.ends_bytes.Goals.{After-fit, Else-not-fit}

-- what the lengths tell
lengths : (c : After-fit) → let args = c.args in Tells (Fits as_bytes args.asked.now args.numbers.now × (length args.third.now ≡ terms)) c.fit.result
unfolding terms records
lengths c = let args = c.args in fitting as_bytes args.asked.now args.numbers.now (λ h. h, λ h. h) c.fit.ensures

fits : (c : Else-not-fit) → let args = c.args in Fits as_bytes args.asked.now args.numbers.now × (length args.third.now ≡ terms)
unfolding terms records
fits c = let args = c.args in told (fitting as_bytes args.asked.now args.numbers.now (λ h. h, λ h. h) c.fit.ensures) c.if-not-fit.false

pub returns-then-not-fit : goal.returns-then-not-fit
returns-then-not-fit c = ends_short as_bytes (told_not (lengths (goal.at.returns-then-not-fit c).After-fit) c.if-not-fit.true)

pub returns-in_err-query : goal.returns-in_err-query
returns-in_err-query c =
    let gone : c.from_residual.result ≡ Err c.in_err-query.field-0.0 = search rules in
    rw gone (ends_turned as_bytes (fits (goal.at.returns-in_err-query c).Else-not-fit) (c.in_err-query.ensures.refused _ refl))

pub unwrap-requires-2 : goal.unwrap-requires-2
unfolding terms records
unwrap-requires-2 c = c.as_mut_array-2.ensures.variant.1 (fits (goal.at.unwrap-requires-2 c).Else-not-fit).0.numbers_fit

pub unwrap-requires-3 : goal.unwrap-requires-3
unfolding terms records
unwrap-requires-3 c = c.as_mut_array-3.ensures.variant.1 (fits (goal.at.unwrap-requires-3 c).Else-not-fit).1

pub returns : goal.returns
returns c = ends_listed as_bytes (fits (goal.at.returns c).Else-not-fit) (c.in_ok-query.ensures.ready _ refl) c.list.ensures
