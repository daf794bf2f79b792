-- `fewest::rows::keep_all` meets its contract: no triple passed lowers an entry.
use Prim.Native.Nat.{ℕ, ◌<◌}
use Rattle.fewest.specs.Pairs.{pairs}
use Rattle.fewest.specs.Rows.{Keeps}
use Rattle.fewest.proofs.rows.keep_all.Given as goal

abbrev pub invariant-loop-k : goal.invariant-loop-k
invariant-loop-k l = (j : ℕ) → j < l.k → Keeps l.site.bytes.now j l.parts l.label l.b l.r (pairs l.numbers)
