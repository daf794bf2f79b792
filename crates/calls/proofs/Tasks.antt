-- What holds of the task of a query holds of the query, by the links of its rule.
use Prim.Native.Nat.{ℕ}
use mathlib.Core.List.{List}
use Rattle.fewest.specs.declared.Goal.{Goal}
use Rattle.fewest.specs.declared.task.Task.{Task}
use Rattle.fewest.specs.Work.{goal_of}
use Rattle.calls.specs.declared.query.Query.{Query}
use Rattle.calls.specs.Given.{Given}
use Rattle.calls.specs.Inner.{TaskOf, Numbered, NumberedFor, Evaluated, EvaluatedFor}
use Rattle.fewest.specs.Pairs.{pairs}

module _ {q : Query} {aim : Goal} {t : Task} (of : TaskOf q aim t) where
  -- the site and the rule were read, and the links are known,
  pub task_given : Given q.site.bytes.now q.rule.now q.site.triples q.count q.starts t.ahead.links.now
  task_given = record { read = q.read; links = of.links }

  -- the numbers were settled,
  pub task_numbered : (N : List ℕ) → NumberedFor t N →
      let L = t.ahead.links.now in Numbered q.site.bytes.now q.site.triples q.rule.now L.up L.role L.first (goal_of aim) (pairs N)
  task_numbered N x = rw (of.site, of.rule, of.goal) at x

  -- and these are the tables that an evaluation leaves.
  pub task_evaluated : {z k : ℕ} {asked numbers ends : List ℕ} → EvaluatedFor t z k asked numbers ends →
      let L = t.ahead.links.now in Evaluated q.site.bytes.now q.site.triples q.rule.now L.up L.role L.first (goal_of aim) z k asked numbers ends
  task_evaluated x = rw (of.site, of.rule, of.goal) at x
