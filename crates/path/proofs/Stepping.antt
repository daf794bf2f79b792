-- The smallest step of one record: one move is tried, and a record's triples in their order.
-- What was passed offers nothing, so the first that is found is the smallest.
use Prim.Native.Nat.{ℕ, ◌<◌, ◌≤◌}
use mathlib.Core.Path.{◌≡◌, refl, sym, subst, ◌∙◌}
use mathlib.Core.Logic.{◌≢◌, inr}
use mathlib.Core.Bool.{Bool, true, false}
use mathlib.Core.List.{List}
use native.Mathlib.Omega.{arith}
use native.Mathlib.Decide.{dec_lt}
use lib.ListN.{length, get_or}
use lib.Dec.{eqb}
use borrow.Author.Tests.{eqb-true, eqb-false}
use Rattle.std.specs.Prelude.{Some, None}
use Rattle.meaning.specs.Limits as limits
use Rattle.meaning.specs.Site.{Site, triple}
use Rattle.meaning.specs.Move.{Axis, self, ahead, inverse, any, Move, going, coming}
use Rattle.meaning.specs.Expression.{Rec, starring}
use Rattle.meaning.specs.Fewest.{Goal}
use Rattle.records.specs.declared.Axis.{Axis as CodeAxis}
use Rattle.records.specs.declared.Label.{Label}
use Rattle.records.specs.Sites.{site_of}
use Rattle.records.specs.Rules.{axis_of, labelled}
use Rattle.records.proofs.Sites.{length-site_of}
use Rattle.fewest.specs.declared.look.Moved.{Moved}
use Rattle.fewest.specs.Frame.{Frame, frame}
use Rattle.fewest.specs.Work.{Least, allowing}
use Rattle.fewest.specs.Threads.{FirstWith, start_along, start_by}
use Rattle.fewest.proofs.Axes as axes
use Rattle.fewest.specs.Tells.{Tells, holds, fails}
use Rattle.path.specs.Offers.{Suits, Stay, Smallest, found, none, Serves, SmallestBy}
use Rattle.fewest.proofs.Tells.{told, told_not}
use Rattle.path.proofs.Carrying.{carries_move, move_carries, carries_stay, stay_carries, below, goes as by-triples}

-- What suits one move, told by its three tests.
module _ {s : Site} {up role : List ℕ} {g : Goal} {T : List ℕ} {l : Label} {r : ℕ} {m : Moved} {t : ℕ} (d : ℕ) where
  pub suits_elsewhere : m.from ≢ t → Tells (Suits (frame s up role g) T l r m t d) false
  suits_elsewhere n = fails (λ x. n x.begins)

  pub suits_barred : {ok : Bool} → ok ≡ allowing T l r m.middle → ok ≡ false → Tells (Suits (frame s up role g) T l r m t d) false
  suits_barred told e = fails λ x. let p = x.passes in let z : ◌≡◌ {A = ℕ} 0 1 = cc in omega arith

  pub suits_left : {ok : Bool} {v : ℕ} → m.from ≡ t → ok ≡ allowing T l r m.middle → ok ≡ true → Least up role g T r m.to v →
      Tells (Suits (frame s up role g) T l r m t d) (eqb v d)
  suits_left {v = v} at told e least = go (eqb v d) refl
    where
      go : (b : Bool) → eqb v d ≡ b → Tells (Suits (frame s up role g) T l r m t d) b
      go true q = holds (record {
        begins = at;
        passes = sym told ∙ e;
        leaves = rw (← eqb-true v d q) (record { left = least.among s; least = least.least s });
      })
      go false q = fails λ x.
          let low = x.leaves.least v (least.among s) in
          let high = least.least s d x.leaves.left in
          eqb-false v d q (omega arith)

-- one record's smallest step is told by its triples
module _ (C : ℕ → ℕ → ℕ → Type 0) (r : ℕ) where
  pub smallest_at : {k u : ℕ} → C r k u → ((j v : ℕ) → C r j v → k ≤ j) → Smallest (λ q j v. (q ≡ r) × C q j v) (Some (record { by = r; over = k; to = u }))
  smallest_at c f = found (refl, c) (λ q j v x. inr (sym x.0, f j v (subst (λ q. C q j v) x.0 x.1)))

  pub smallest_none : ((j v : ℕ) → C r j v → ⊥) → Smallest (λ q j v. (q ≡ r) × C q j v) None
  smallest_none f = none (λ q j v x. f j v (subst (λ q. C q j v) x.0 x.1))

-- standing at t is a move of its own
abbrev pub standing : ℕ → Moved
standing t = record { from = t; middle = t; to = t }

-- The self step of record r: one may stay and staying suits, or not.
module _ {s : Site} {up role : List ℕ} {g : Goal} {T : List ℕ} (l : Label) (r t d : ℕ) where
  pub self_found : {stay suit : Bool} → Tells (Stay s l t) stay → stay ≡ true → Tells (Suits (frame s up role g) T l r (standing t) t d) suit → suit ≡ true →
      SmallestBy (frame s up role g) T self l t d r (Some (record { by = r; over = limits.none; to = t }))
  self_found a i b j rs e =
      let x = told b j in
      smallest_at (Serves (frame s up role g) T rs t d) r (stay_carries l e (told a i) x.passes, x.leaves)
      (λ k v y. let n = (carries_stay l e y.0).0 in omega arith)

  nothing : (Stay s l t → Suits (frame s up role g) T l r (standing t) t d → ⊥) → SmallestBy (frame s up role g) T self l t d r None
  nothing n rs e =
      smallest_none (Serves (frame s up role g) T rs t d) r
      (λ k v y. let (_, same, w, ok) = carries_stay l e y.0 in n w (record { begins = refl; passes = ok; leaves = rw same at y.1 }))

  pub self_away : {stay : Bool} → Tells (Stay s l t) stay → stay ≡ false → SmallestBy (frame s up role g) T self l t d r None
  self_away a i = nothing (λ w x. told_not a i w)

  pub self_unfit : {suit : Bool} → Tells (Suits (frame s up role g) T l r (standing t) t d) suit → suit ≡ false →
      SmallestBy (frame s up role g) T self l t d r None
  self_unfit b j = nothing (λ w. told_not b j)

-- triple k offers record r nothing, where the record is a step with this axis and label
abbrev pub Idle : Frame → List ℕ → Axis → Label → (r t d k : ℕ) → Type 0
Idle F T a l r t d k = (rs : List Rec) → get_or rs r starring ≡ labelled a l → (u : ℕ) → Serves F T rs t d r k u → ⊥

-- The triples of record r, one after another, along an axis that takes triples.
module _ {s : Site} {up role : List ℕ} {g : Goal} {T : List ℕ} {a : Axis} (goes : a ≢ self) (l : Label) (r t d : ℕ) where
  pub triple_idle : {k : ℕ} {m : Moved} {suit : Bool} → axes.Taken s k a m → Tells (Suits (frame s up role g) T l r m t d) suit → suit ≡ false →
      Idle (frame s up role g) T a l r t d k
  triple_idle taken b j rs e u x =
      let (p, move, ok) = carries_move goes l e x.0 in
      let (from, past, to) = taken.alone t p u move in
      told_not b j (record { begins = sym from; passes = rw past at ok; leaves = rw to at x.1 })

  pub triple_found : {k : ℕ} {m : Moved} {suit : Bool} → axes.Taken s k a m → Tells (Suits (frame s up role g) T l r m t d) suit → suit ≡ true →
      ((j : ℕ) → j < k → Idle (frame s up role g) T a l r t d j) →
      SmallestBy (frame s up role g) T a l t d r (Some (record { by = r; over = k; to = m.to }))
  triple_found {k} taken b j idle rs e =
      let x = told b j in
      smallest_at (Serves (frame s up role g) T rs t d) r
      (move_carries goes l e (rw x.begins at taken.moves) x.passes, x.leaves)
      (λ i v y. elim (dec_lt i k) [ yes h ↦ absurd (idle i h rs e v y) | no h ↦ omega arith ])

  pub triple_none : {k : ℕ} → length s ≤ k → ((j : ℕ) → j < k → Idle (frame s up role g) T a l r t d j) →
      SmallestBy (frame s up role g) T a l t d r None
  triple_none h idle rs e =
      smallest_none (Serves (frame s up role g) T rs t d) r
      (λ j v y. let (_, move, _) = carries_move goes l e y.0 in let b = below goes move in idle j (omega arith) rs e v y)

-- Each move along an axis starts where its triple does.
starts_along : {s : Site} {k t m u : ℕ} (a : Axis) → a ≢ self → Move s a any k t m u → t ≡ start_along a (triple s k)
starts_along self e x = absurd (e refl)
starts_along (ahead d) e (going x _) = x.starts
starts_along (inverse d) e (coming x _) = x.ends

-- Where the triples are threaded by their start, what stands between one of a thread and the next offers nothing.
module _ (b : List ℕ) {n : ℕ} (axis : CodeAxis) {up role : List ℕ} {g : Goal} {T : List ℕ} (l : Label) (r t d : ℕ) where
  pub thread_idle : {k j : ℕ} → FirstWith (start_by axis (site_of b n)) n t k j →
      ((i : ℕ) → i < k → Idle (frame (site_of b n) up role g) T (axis_of axis) l r t d i) →
      (i : ℕ) → i < j → Idle (frame (site_of b n) up role g) T (axis_of axis) l r t d i
  thread_idle {k} {j} first idle i h rs e u x = elim (dec_lt i k) [
    | yes early ↦ idle i early rs e u x
    | no late ↦
        let (_, move, _) = carries_move (by-triples axis) l e x.0 in
        let inside : i < n = rw (length-site_of b n) at (below (by-triples axis) move) in
        let least = first.least i (omega arith) inside (sym (starts_along (axis_of axis) (by-triples axis) move)) in
        omega arith
  ]
