-- `calls::lists::list` meets its contract: an evaluation, whose tables can then be counted.
use mathlib.Core.Path.{◌∙◌}
use Rattle.meaning.specs.Limits.{terms, records}
use Rattle.calls.proofs.Admits.{read_some}
use Rattle.calls.proofs.Tasks.{task_given, task_evaluated}
use Rattle.calls.proofs.Listing.{listed_bits}
use Rattle.calls.proofs.lists.list.Goals as goal

pub evaluate-requires : goal.evaluate-requires
evaluate-requires c =
    let query = c.args.query.now in
    (rw c.task-task.ensures.count (read_some query.read), query.start_fits)

pub count-requires : goal.count-requires
count-requires c =
    let query = c.args.query.now in
    (listed_bits (task_given c.task-task.ensures) query.start_fits (task_evaluated c.task-task.ensures c.evaluate.ensures)).1

pub count-requires-2 : goal.count-requires-2
count-requires-2 c =
    let query = c.args.query.now in
    (listed_bits (task_given c.task-task.ensures) query.start_fits (task_evaluated c.task-task.ensures c.evaluate.ensures)).0

pub returns : goal.returns
unfolding terms records
returns c =
    let of = c.task-task.ensures in
    record {
      links = c.task-task.result.ahead.links.now;
      built = of.links;
      listed = record {
        evaluated = task_evaluated of c.evaluate.ensures;
        long = c.evaluate.array_long2;
        wide = c.evaluate.auto.ends ∙ c.told-third;
        ends = c.count.ensures;
        figure = c.count-2.ensures;
      };
    }
