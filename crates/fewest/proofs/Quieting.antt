-- The laws of looks that store nothing: what bytes tell of two rows, what a walk up the links tells of what may follow, and when
-- a step and a star are quiet.
use Prim.Native.Nat.{ℕ, ◌+◌, ◌*◌, ◌-◌, ◌<◌, ◌≤◌}
use mathlib.Core.Path.{◌≡◌}
use mathlib.Core.Logic.{◌⊎◌, inl, inr, ⊎_elim}
use mathlib.Core.Bool.{Bool, false}
use mathlib.Core.List.{List}
use native.Mathlib.Omega.{arith}
use lib.Dec.{eqb}
use lib.ListN.{length, get_or}
use borrow.Author.Tests.{eqb-true}
use Rattle.meaning.specs.Limits.{terms, records, none}
use Rattle.meaning.specs.Site.{Site}
use Rattle.meaning.specs.Move.{Axis}
use Rattle.meaning.specs.Fewest.{Goal, end}
use Rattle.records.specs.Bytes.{base}
use Rattle.records.specs.declared.Label.{Label}
use Rattle.records.proofs.Tests.{by_test}
use Rattle.fewest.specs.Pairs.{pairs}
use Rattle.fewest.specs.Frame.{as_whole, as_first, as_round, Climbs, Frame, frame}
use Rattle.fewest.specs.Offer.{view, Continues, resting, copying, Offer, by_rest, Quiet}
use Rattle.fewest.specs.Table.{Full}
use Rattle.fewest.specs.declared.look.Moved.{Moved}
use Rattle.fewest.specs.Work.{work_of, allowing}
use Rattle.fewest.specs.Rows.{RowBelow, HomeBelow, Bounds, KeptBy}
use Rattle.fewest.proofs.Decoded.{pairs_at}
use Rattle.fewest.proofs.Roles.{continues_at}
use Rattle.fewest.proofs.Axes.{Taken}
use Rattle.fewest.proofs.Rowwise.{copied}
use Rattle.fewest.proofs.ByTriples.{Takes, moves_quiet}

-- Row b's bytes are nowhere above row a's: so its numbers are nowhere above.
module _ (N : List ℕ) (b a : ℕ) (full : Full N) (row : b < records) (other : a < records)
    (seen : (i : ℕ) → i < terms + terms → get_or N (b * (terms + terms) + i) 0 ≤ get_or N (a * (terms + terms) + i) 0) where
  -- the number of a row at t by its bytes
  bytes : (r t : ℕ) → r < records → t < terms →
      view (pairs N) r t ≡ get_or N (r * (terms + terms) + (t + t)) 0 * base + get_or N (r * (terms + terms) + (t + t + 1)) 0
  unfolding view Full terms records
  bytes r t row here =
      let high : r * terms + t + (r * terms + t) ≡ r * (terms + terms) + (t + t) = omega arith in
      let low : r * terms + t + (r * terms + t) + 1 ≡ r * (terms + terms) + (t + t + 1) = omega arith in
      rw (pairs_at N (r * terms + t) (omega arith), low, high)

  pub row_below : RowBelow b a (pairs N)
  row_below t here =
      let high = seen (t + t) (omega arith) in
      let low = seen (t + t + 1) (omega arith) in
      rw (bytes b t row here, bytes a t other here) (omega arith)

-- The rule's own finish is at one end: a row that is 0 there, if it is a term, is nowhere above what is left.
pub home_below : (T : List ℕ) (b : ℕ) {v : ℕ} → ((t : ℕ) → view T b t ≤ none) → (v < terms → view T b v ≤ 0) → HomeBelow (end v) b T
home_below T b {v} top here t h =
    by_test (λ (x : ℕ). view T b t ≤ x) (eqb t v) (λ e. let q = eqb-true t v e in rw q (here (rw q at h))) (λ e. top t)

-- The walk from record r has reached record `at`: what may follow is no lower than row b, or may follow there.
pub record Climbed (up role : List ℕ) (g : Goal) (T : List ℕ) (b r at : ℕ) : Type 0 where
  pub inside : at < records
  pub passed : (s : Site) (t v : ℕ) → t < terms → Continues (frame s up role g) T r t v →
      (view T b t ≤ v) ⊎ Continues (frame s up role g) T at t v

module _ {up role : List ℕ} {g : Goal} {T : List ℕ} {b r : ℕ} where
  pub climb_begins : r < records → Climbed up role g T b r r
  climb_begins h = record { inside = h; passed = λ s t v here c. inr c }

  module _ {at : ℕ} (climb : Climbed up role g T b r at) where
    pub climb_home : get_or role at 0 ≡ as_whole → HomeBelow g b T → Bounds up role g b r T
    climb_home q home s t v here c =
        ⊎_elim (λ l. l) (λ d. let e = continues_at as_whole q d in rw e (home t here)) (climb.passed s t v here c)

    pub climb_first : get_or role at 0 ≡ as_first → RowBelow b (get_or up at 0 - 1) T → Bounds up role g b r T
    climb_first q row s t v here c =
        ⊎_elim (λ l. l) (λ d. let e = continues_at as_first q d in rw e (row t here)) (climb.passed s t v here c)

    -- one star up
    pub climb_up : Climbs records up role → get_or role at 0 ≡ as_round → RowBelow b (get_or up at 0 - 1) T →
        Climbed up role g T b r (get_or up at 0)
    climb_up climbs q row =
        record {
          inside = (climbs.higher at climb.inside (λ e. omega arith)).1;
          passed = λ s t v here c. ⊎_elim inl
              (λ d. ⊎_elim (λ e. inl (rw e (row t here))) inr (continues_at as_round q d)) (climb.passed s t v here c);
        }

-- A look at triple number k, whose one move along the axis is m, for a step of record r with this label: it ends near enough, or
-- the label does not let its middle pass.
module _ {s : Site} {k : ℕ} {a : Axis} (l : Label) (T : List ℕ) (b r : ℕ) {m : Moved} (taken : Taken s k a m) where
  pub keep_near : m.to < terms → view T r m.from ≤ view T b m.to + 1 → KeptBy s a l b r k T
  keep_near inside near t p u move passes =
      let (from, _, to) = taken.alone t p u move in
      record { inside = rw to inside; near = rw (from, to) near }

  pub keep_barred : {ok : Bool} → ok ≡ allowing T l r m.middle → ok ≡ false → KeptBy s a l b r k T
  keep_barred told nay t p u move passes =
      let (_, past, _) = taken.alone t p u move in
      let z : ◌≡◌ {A = ℕ} 0 1 = cc (rw past at passes) in absurd (omega arith)

module _ {s : Site} {up role : List ℕ} {g : Goal} {T : List ℕ} {b r : ℕ} where
  -- A step is quiet where row b bounds what is left and no triple lowers an entry to one more than row b.
  pub step_kept : {a : Axis} (l : Label) → Takes a → Bounds up role g b r T → ((k : ℕ) → k < length s → KeptBy s a l b r k T) →
      Quiet (frame s up role g) (work_of a l) r T
  step_kept l takes bounds kept =
      moves_quiet takes l λ k h t m u v move ok c. let x = kept k h t m u move ok in
      let y = bounds s u v x.inside c in
      let z = x.near in
      omega arith

rest_kept : {F : Frame} {T : List ℕ} {r t v : ℕ} → Offer F T r t resting v → ((w : ℕ) → Continues F T r t w → view T r t ≤ w) → view T r t ≤ v
rest_kept (by_rest {v} i c) f = f v c

-- A star is quiet where its row is nowhere above its operand's, and bounds what is left.
pub star_kept : {s : Site} {up role : List ℕ} {g : Goal} {T : List ℕ} {r : ℕ} → RowBelow r (r - 1) T → Bounds up role g r r T →
    Quiet (frame s up role g) (copying (r - 1)) r T × Quiet (frame s up role g) resting r T
star_kept {s} row bounds = (λ t v here o. copied o (row t here), λ t v here o. rest_kept o (λ w c. bounds s t w here c))
