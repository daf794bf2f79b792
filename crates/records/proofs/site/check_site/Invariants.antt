-- `records::site::check_site` meets its contract. The loop's invariant: reading stands where a record begins, and what is answered to
-- reading on is answered to the site. The measure is what is left of the bytes.
use Prim.Native.Nat.{◌-◌}
use lib.ListN.{length}
use Rattle.records.specs.Sites.{Begun}
use Rattle.records.proofs.site.check_site.Given as goal

abbrev pub invariant-loop-at : goal.invariant-loop-at
invariant-loop-at l = Begun l.site l.at

abbrev pub decreases-loop-at : goal.decreases-loop-at
decreases-loop-at l = length l.site - l.at
