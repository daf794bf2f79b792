-- `asked::count::count` meets its contract: the parts passed are counted. The measure is how many entries are left.
use Rattle.std.proofs.Common.{◌≡◌, length, ◌+◌}
use Rattle.fewest.specs.Sweep.{sum}
use Rattle.asked.specs.Seek.{Bits}
use Rattle.asked.proofs.count.count.Given as goal

abbrev pub invariant-loop-ones : goal.invariant-loop-ones
invariant-loop-ones l = Bits l.left × (l.n + sum l.left ≡ sum l.table)

abbrev pub decreases-loop-ones : goal.decreases-loop-ones
decreases-loop-ones l = length l.left
