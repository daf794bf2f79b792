-- `fewest::cells::put_sets` meets its contract: cell after cell, each behind the threads.
use Rattle.fewest.specs.Kept.{Kept}
use Rattle.fewest.proofs.cells.put_sets.Given as goal

abbrev pub invariant-loop-i : goal.invariant-loop-i
invariant-loop-i l = Kept l.initial.scratch l.scratch
