-- The loop's invariant: the lines of the steps so far are put.
use Rattle.std.proofs.Common.{◌*◌, ◌≤◌, ◌+◌}
use Rattle.printed.specs.Put.{Put}
use Rattle.printed.specs.Lines.{step_lines, step_most}
use Rattle.printed.proofs.put.Text.put_steps.Given as goal

abbrev pub invariant-loop-by : goal.invariant-loop-by
invariant-loop-by g l = record {
  lines : Put (step_lines l.by-index l.room) l.initial.self l.self;
  few : l.self.count ≤ l.initial.self.count + step_most * l.by-index;
}
