-- `printed::print::answer` meets its contract: the tables have their lengths, the room is one of 1,024 steps.
use mathlib.Core.Path.{refl}
use Rattle.std.proofs.Common.{rules}
use Rattle.std.proofs.lemmas.Result.{err_from_is_err_and}
use Rattle.meaning.specs.Limits.{terms, records}
use Rattle.calls.specs.Promise.{room_steps}
use Rattle.printed.proofs.Saying.{says_refused, never_refused, says_answer, answer_steps, printed_outside, printed_said, parts_within}
use Rattle.printed.proofs.print.answer.Goals as goal

pub returns-in_err-parts-clause-said : goal.returns-in_err-parts-clause-said
returns-in_err-parts-clause-said c =
    let p = err_from_is_err_and c.from_residual.result c.from_residual.ensures.1 in
    rw (p.1, p.2) (printed_outside c.in_err-parts.ensures)

pub slice_bounds-ahead-count : goal.slice_bounds-ahead-count
slice_bounds-ahead-count c = (parts_within c.in_ok-parts.ensures).0

pub split_at-requires : goal.split_at-requires
split_at-requires c = (parts_within c.in_ok-parts.ensures).1

pub returns-in_err-answer-clause-said : goal.returns-in_err-answer-clause-said
unfolding terms records room_steps
returns-in_err-answer-clause-said c =
    let parts = c.split_at.ensures in
    let p = err_from_is_err_and c.from_residual-in_err-answer.result c.from_residual-in_err-answer.ensures.1 in
    rw (p.1, p.2) (printed_said c.in_ok-parts.ensures parts.front parts.back (says_refused (record { asked_fits = refl; numbers_fit = refl }) (search rules) c.in_err-answer.ensures))

pub returns-in_err-most-clause-said : goal.returns-in_err-most-clause-said
returns-in_err-most-clause-said c = absurd (never_refused c.in_ok-answer.ensures c.in_err-most.ensures)

pub returns-clause-said : goal.returns-clause-said
unfolding room_steps
returns-clause-said c =
    let parts = c.split_at.ensures in
    printed_said c.in_ok-parts.ensures parts.front parts.back (says_answer (search rules) c.in_ok-answer.ensures c.in_ok-most.ensures)

pub returns-clause-few : goal.returns-clause-few
unfolding room_steps
returns-clause-few c = answer_steps (search rules) c.in_ok-answer.ensures
