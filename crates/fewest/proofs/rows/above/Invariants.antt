-- `fewest::rows::above` meets its contract: no byte passed is above the other row's by more than the most.
use Prim.Native.Nat.{ℕ, ◌+◌, ◌<◌, ◌≤◌}
use lib.ListN.{get_or}
use Rattle.fewest.proofs.rows.above.Given as goal

abbrev pub invariant-loop-i : goal.invariant-loop-i
invariant-loop-i l = (j : ℕ) → j < l.i → get_or l.numbers (l.at + j) 0 ≤ get_or l.numbers (l.from + j) 0 + l.most
