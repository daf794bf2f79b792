-- `records::site::plain_until` meets its contract. The loop's invariant: reading has come to the place, and `before` is the eight
-- bytes of the record before. The measure is what is left of the bytes. Assumes nothing.
use Prim.Native.Nat.{◌-◌}
use lib.ListN.{length}
use Rattle.records.specs.Sites.{Begun}
use Rattle.records.proofs.Plain.{Behind}
use Rattle.records.proofs.site.plain_until.Given as goal

abbrev pub invariant-loop-at : goal.invariant-loop-at
invariant-loop-at l = Begun l.site l.at × Behind l.site l.at l.before

abbrev pub decreases-loop-at : goal.decreases-loop-at
decreases-loop-at l = length l.site - l.at
