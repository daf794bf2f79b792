-- `asked::count::count_part` meets its contract: each entry adds at most 1, so that a byte holds the count of a part.
use Prim.Native.Nat.{◌≤◌}
use mathlib.Core.Path.{◌≡◌}
use lib.ListN.{take}
use Rattle.fewest.specs.Sweep.{sum}
use Rattle.asked.proofs.count.count_part.Given as goal

abbrev pub invariant-loop-one : goal.invariant-loop-one
invariant-loop-one l = (l.n ≤ l.one-index) × (l.n ≡ sum (take l.one-index l.ones))
