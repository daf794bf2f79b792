use mathlib.Core.Path.{sym, ◌∙◌}
use native.Mathlib.Omega.{arith}
use borrow.Author.Count.{below_more}
use Rattle.path.proofs.Choosing.{open_found, open_idle, open_none}
use Rattle.path.proofs.choose.choose.Goals as goal

pub returns-then-is_some : goal.returns-then-is_some
returns-then-is_some c =
    open_found (sym c.is_some.ensures ∙ c.if-is_some.true) c.of_record-found.ensures c.loop-r.invariant

pub loop-r-preserved : goal.loop-r-preserved
loop-r-preserved c =
    below_more _ _ c.loop-r.invariant (open_idle (sym c.is_some.ensures ∙ c.if-is_some.false) c.of_record-found.ensures)

pub returns : goal.returns
returns c = open_none (omega (arith, c.args.task.now.ready.counted)) c.loop-r.invariant
