-- `calls::write::write` meets its contract. The loop's invariant: the first `i` steps are written, by the laws of Writing.
use Rattle.records.specs.Sites.{site_of}
use Rattle.records.specs.Rules.{records_of}
use Rattle.fewest.specs.Pairs.{pairs}
use Rattle.fewest.specs.Work.{goal_of}
use Rattle.calls.proofs.Writing.{Writing}
use Rattle.calls.proofs.write.write.Given as goal

abbrev pub invariant-loop-i : goal.invariant-loop-i
invariant-loop-i g l =
    Writing g.C.Lent.form (records_of l.task.rule.bytes.now) l.task.ahead.links.now (site_of l.task.site.bytes.now l.task.site.triples) (goal_of l.task.ahead.goal) (pairs l.numbers) l.start l.steps (g.C.Lent.entries l.initial.room) (g.C.Lent.entries l.room) l.after l.term l.i
