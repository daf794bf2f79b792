-- `asked::narrow::clear_rows` meets its contract: the rows passed are 0.
use Prim.Native.Nat.{◌-◌}
use Rattle.asked.specs.Narrow.{Cleared}
use Rattle.asked.proofs.narrow.clear_rows.Given as goal

abbrev pub invariant-loop-r : goal.invariant-loop-r
invariant-loop-r l = Cleared l.first (l.r - l.first) l.initial.asked l.asked
