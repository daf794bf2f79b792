-- `asked::wait::waits` meets its contract: no byte passed is above the most.
use Prim.Native.Nat.{ℕ, ◌<◌, ◌≤◌}
use lib.ListN.{get_or}
use Rattle.asked.proofs.wait.waits.Given as goal

abbrev pub invariant-loop-byte : goal.invariant-loop-byte
invariant-loop-byte l = (j : ℕ) → j < l.byte-index → get_or l.byte-items j 0 ≤ l.most
