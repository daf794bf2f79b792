-- `calls::origins::list` meets its contract: the tables keep their lengths from call to call.
use Rattle.meaning.specs.Limits.{terms, records}
use native.Mathlib.Omega.{arith}
use Rattle.calls.proofs.Admits.{read_some}
use Rattle.calls.proofs.TermTables.{table_bits}
use Rattle.calls.proofs.Starting.{told_table}
use Rattle.calls.proofs.Tasks.{task_numbered}
use Rattle.calls.proofs.origins.list.Goals as goal

pub overflow_sub-task : goal.overflow_sub-task
overflow_sub-task c = rw c.task-task.ensures.count (omega (arith, read_some c.args.query.now.read))

pub count-requires : goal.count-requires
count-requires c = table_bits (told_table c.tell.ensures)

pub returns : goal.returns
unfolding terms records
returns c =
    let of = c.task-task.ensures in
    record {
      links = c.task-task.result.ahead.links.now;
      built = of.links;
      listed = record {
        settled = task_numbered of c.fill.new.numbers c.fill.ensures.0;
        long = c.fill.array_long2;
        told = rw of.count at c.tell.ensures;
        count = c.count.ensures;
        clear = c.clear.ensures;
      };
    }
