-- The walk up the links from a record whose expression is done, as `follow` takes it: what comes next is opened on the way.
-- It ends at the whole rule or a test, where nothing comes next, or at the first of a sequence.
use Prim.Native.Nat.{ℕ, ◌-◌, ◌<◌}
use mathlib.Core.Path.{◌≡◌, refl}
use mathlib.Core.Logic.{◌⊎◌, inl, inr, ⊎_elim}
use mathlib.Core.Bool.{Bool}
use mathlib.Core.List.{List}
use native.Mathlib.Omega.{arith}
use lib.ListN.{get_or}
use Rattle.meaning.specs.Limits.{records}
use Rattle.fewest.specs.Frame.{Frame, as_first, as_round}
use Rattle.fewest.specs.Next.{Next, on, again, ending}
use Rattle.fewest.specs.Sweep.{Swept}
use Rattle.fewest.proofs.Sweeps.{swept_none, swept_then, swept_weaken, swept_lift}
use Rattle.path.specs.Flags.{Open, closed, Opens, Opening, linked}
use Rattle.path.proofs.Opening.{opens_chain, opens_more, opening_none}

-- what comes next, by the record's role
next_cases : {F : Frame} {r b : ℕ} → Next F r b →
    ((get_or F.role r 0 ≡ as_first) × (b ≡ get_or F.up r 0 - 1)) ⊎
    ((get_or F.role r 0 ≡ as_round) × ((b ≡ get_or F.up r 0 - 1) ⊎ Next F (get_or F.up r 0) b))
next_cases (on e) = inl (e, refl)
next_cases (again e) = inr (e, inl refl)
next_cases (ending e n) = inr (e, inr n)

-- The walk up the links from record r is at a record: what comes next there comes next after r, and what comes next after r
-- is open or comes next there.
pub record Climbing (up role : List ℕ) (r : ℕ) (X Y : List Bool) (was now : Bool) (at : ℕ) : Type 0 where
  pub inside : at < records
  pub onward : (b : ℕ) → Next (linked up role) at b → Next (linked up role) r b
  pub swept : Swept closed (Opens (Next (linked up role) r)) (λ Z. (b : ℕ) → Next (linked up role) r b → Open Z b ⊎ Next (linked up role) at b) X Y was now

module _ {up role : List ℕ} {r : ℕ} where
  pub climb_begins : {X : List Bool} {was : Bool} → r < records → Climbing up role r X X was was r
  climb_begins h = record { inside = h; onward = λ b n. n; swept = swept_none (opens_chain (Next (linked up role) r)) (λ b. inr) }

  module _ {X Y : List Bool} {was now : Bool} {at : ℕ} (climb : Climbing up role r X Y was now at) where
    -- what is opened where the walk is, and what is left to be opened
    climbs : {P M : ℕ → Type 0} {Z : List Bool} {then : Bool} → Opening P Y Z now then → ((b : ℕ) → P b → Next (linked up role) at b) →
        ((b : ℕ) → Next (linked up role) at b → P b ⊎ M b) →
        Swept closed (Opens (Next (linked up role) r)) (λ Z. (b : ℕ) → Next (linked up role) r b → Open Z b ⊎ M b) X Z was then
    climbs p f g =
        swept_weaken (λ h b n. ⊎_elim inl (λ m. ⊎_elim (λ q. inl (h.1 b q)) inr (g b m)) (h.0 b n))
        (swept_then (opens_chain (Next (linked up role) r)) climb.swept (swept_lift (opens_more (λ b q. climb.onward b (f b q))) p))

    ended : {P : ℕ → Type 0} {Z : List Bool} {then : Bool} → Opening P Y Z now then → ((b : ℕ) → P b → Next (linked up role) at b) →
        ((b : ℕ) → Next (linked up role) at b → P b) → Opening (Next (linked up role) r) X Z was then
    ended p f g = swept_weaken (λ h b n. ⊎_elim (λ o. o) absurd (h b n)) (climbs {M = λ b. ⊥} p f (λ b n. inl (g b n)))

    -- The three ends: at the whole rule or a test nothing comes next; at the first of a sequence, its second.
    pub climb_ends : get_or role at 0 < as_first → Opening (Next (linked up role) r) X Y was now
    climb_ends l = ended {P = λ b. ⊥} (opening_none (λ b. absurd)) (λ b. absurd)
        (λ b n. ⊎_elim (λ q. let e = q.0 in omega arith) (λ q. let e = q.0 in omega arith) (next_cases n))

    pub climb_first : {Z : List Bool} {then : Bool} → get_or role at 0 ≡ as_first → Opening (λ b. b ≡ get_or up at 0 - 1) Y Z now then →
        Opening (Next (linked up role) r) X Z was then
    climb_first e p = ended p (λ b q. rw q (on e)) (λ b n. ⊎_elim (λ q. q.1) (λ q. let l = q.0 in absurd (omega arith)) (next_cases n))

    -- One star up: its operand may run again.
    pub climb_up : {Z : List Bool} {then : Bool} → get_or up at 0 < records → get_or role at 0 ≡ as_round →
        Opening (λ b. b ≡ get_or up at 0 - 1) Y Z now then → Climbing up role r X Z was then (get_or up at 0)
    climb_up h e p = record {
      inside = h;
      onward = λ b n. climb.onward b (ending e n);
      swept = climbs p (λ b q. rw q (again e)) (λ b n. ⊎_elim (λ q. let f = q.0 in absurd (omega arith)) (λ q. q.1) (next_cases n));
    }
