-- A row is lowered to another, place by place: what one turn of `sweep_row` sees, and what all of them make.
-- A copy offers the entry that it copies, and nothing else.
use Prim.Native.Nat.{ℕ, ◌<◌, ◌≤◌}
use mathlib.Core.Path.{◌≡◌}
use mathlib.Core.Bool.{Bool}
use mathlib.Core.List.{List}
use native.Mathlib.Omega.{arith}
use Rattle.meaning.specs.Limits.{terms}
use Rattle.fewest.specs.Frame.{Frame}
use Rattle.fewest.specs.Offer.{view, copying, Offer, by_row, Lowers}
use Rattle.fewest.specs.Sweep.{sum}
use Rattle.fewest.specs.Table.{Lowered}
use Rattle.fewest.specs.Work.{Looks, QuietAt, WorkSwept}
use Rattle.fewest.proofs.Sweeps.{swept_weaken}
use Rattle.fewest.proofs.Looks.{looked}
use Rattle.fewest.proofs.Loops.{Seen}

-- what the other row is not below, the offer is not
pub copied : {F : Frame} {T : List ℕ} {r t a v : ℕ} → Offer F T r t (copying a) v → view T r t ≤ view T a t → view T r t ≤ v
copied by_row h = h

-- one look: the entry at t was tried against row a's
pub row_looked : {F : Frame} {a r t v : ℕ} {T U : List ℕ} {was now : Bool} → t < terms → v ≡ view T a t → Lowered r t v T U was now →
    Looks F (copying a) r (QuietAt F (copying a) r t) T U was now
row_looked b e low = looked b by_row (rw e at low) (λ h x o. copied o h)

-- Every place seen, the row was swept.
pub row_swept : {F : Frame} {a r k : ℕ} {T U : List ℕ} {was now : Bool} → terms ≤ k →
    Seen sum (Lowers F (copying a) r) (QuietAt F (copying a) r) k T U was now → WorkSwept F (copying a) r T U was now
row_swept past p = swept_weaken (λ seen t v b o. seen t (omega arith) v o) p
