-- `calls::decide_words::decide` meets its contract: the lengths, then the admission, then the answer decide; a room of numbers has any
-- length.
use mathlib.Core.Path.{◌≡◌, refl}
use borrow.Author.Rules.{rules}
use Rattle.std.specs.Prelude.{Err}
use Rattle.meaning.specs.Limits.{terms, records}
use Rattle.fewest.specs.Tells.{Tells}
use Rattle.fewest.proofs.Tells.{told, told_not}
use Rattle.calls.specs.Promise.{as_words, Fits, RoomFits}
use Rattle.calls.proofs.Fitting.{fitting}
use Rattle.calls.proofs.Deciding.{decided_short, decided_turned, decided_query}
use Rattle.calls.proofs.decide_words.decide.Goals as goal
use Rattle.calls.proofs.decide_words.decide.Goals.{After-fit, Else-not-fit}

-- what the lengths tell
lengths : (c : After-fit) → let args = c.args in Tells (Fits as_words args.asked.now args.numbers.now × RoomFits as_words args.room.now) c.fit.result
unfolding terms records
lengths c = let args = c.args in fitting as_words args.asked.now args.numbers.now (λ h. tt, λ h. refl) c.fit.ensures

fits : (c : Else-not-fit) → let args = c.args in Fits as_words args.asked.now args.numbers.now × RoomFits as_words args.room.now
unfolding terms records
fits c = let args = c.args in told (fitting as_words args.asked.now args.numbers.now (λ h. tt, λ h. refl) c.fit.ensures) c.if-not-fit.false

pub returns-then-not-fit : goal.returns-then-not-fit
returns-then-not-fit c = decided_short as_words (told_not (lengths (goal.at.returns-then-not-fit c).After-fit) c.if-not-fit.true)

pub returns-in_err-query : goal.returns-in_err-query
returns-in_err-query c =
    let gone : c.from_residual.result ≡ Err c.in_err-query.field-0.0 = search rules in
    rw gone (decided_turned as_words (fits (goal.at.returns-in_err-query c).Else-not-fit) (c.in_err-query.ensures.refused _ refl))

pub returns : goal.returns
returns c =
    rw c.copy_back.ensures
    (decided_query as_words (c.in_ok-query.ensures.ready _ refl)
    (c.answer-answer.ensures c.args.asked.now c.args.numbers.now (fits (goal.at.returns c).Else-not-fit).0))
