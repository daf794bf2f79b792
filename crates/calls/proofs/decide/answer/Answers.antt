-- `calls::decide::answer` meets its contract: asking with no table of ends leaves the room as it was shown.
use mathlib.Core.Path.{refl}
use Rattle.meaning.specs.Limits.{terms, records}
use Rattle.calls.proofs.Admits.{read_some}
use Rattle.calls.proofs.Tasks.{task_given, task_evaluated}
use Rattle.calls.proofs.Deciding.{no_ends, finished_bits, finished}
use Rattle.calls.proofs.decide.answer.Goals as goal

pub ask-requires : goal.ask-requires
ask-requires g c =
    let query = c.args.query.now in
    (rw c.task-task.ensures.count (read_some query.read), query.start_fits, c.fill.ensures.1)

pub finish-requires : goal.finish-requires
finish-requires g c =
    let of = c.task-task.ensures in
    let evaluated = no_ends c.fill.new.numbers c.ask.new.ends c.ask.auto.ends refl c.fill.ensures.0 c.ask.ensures in
    finished_bits (task_given of) (task_evaluated of evaluated) c.args.query.now.start_fits

pub returns : goal.returns
unfolding terms records
returns g c asked numbers fit =
    let query = c.args.query.now in
    let of = c.task-task.ensures in
    let evaluated = no_ends c.fill.new.numbers c.ask.new.ends c.ask.auto.ends refl c.fill.ensures.0 c.ask.ensures in
    let shown = rw (of.site, of.rule, of.count, of.goal) at c.show-steps.ensures in
    rw c.finish.ensures
    (finished (task_given of) (task_evaluated of evaluated) query.start_fits g.C.Lent.form (g.C.Lent.entries c.args.room.now) fit c.requires query.end_fits
    c.fill.array_long2 shown c.steps-most.ensures.most)
