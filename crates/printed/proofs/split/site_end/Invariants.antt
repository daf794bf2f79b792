-- `printed::split::site_end` meets its contract. The loop's invariant: where the records read on from `at` end, those of all
-- the bytes do.
use Prim.Native.Nat.{ℕ}
use Rattle.printed.specs.Input.{SiteEnds}
use Rattle.printed.proofs.split.site_end.Given as goal

abbrev pub invariant-loop-at : goal.invariant-loop-at
invariant-loop-at l = (to : ℕ) → SiteEnds l.front l.at to → SiteEnds l.front 0 to
