use native.Mathlib.Numerals.{add-one}
use native.Mathlib.Omega.{arith}
use lib.ListN.{length-take}
use Rattle.printed.specs.Lines.{step_lines, step_most}
use Rattle.printed.proofs.Putting.{put_none, put_then}
use Rattle.printed.proofs.Steps.{lines_more, line_at}
use Rattle.printed.proofs.put.Text.put_steps.Goals as goal

pub loop-by-init : goal.loop-by-init
unfolding step_lines
loop-by-init g c = record { lines = put_none _; few = omega arith }

pub put_step-requires : goal.put_step-requires
unfolding step_most
put_step-requires g c = omega (arith, length-take c.args.steps c.as_chunks.result.0.now)

pub loop-by-preserved : goal.loop-by-preserved
loop-by-preserved g c =
    let inv = c.loop-by.invariant in
    let is = line_at c.args.steps _ c.args.room.now _ c.as_chunks.ensures.front _ c.loop-by-test.true in
    record { lines = rw (add-one, lines_more) (put_then inv.lines (rw is at c.put_step.ensures.line)); few = omega arith }
