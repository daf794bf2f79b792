-- The smallest step of all open records: the first that offers one, in their order, offers the smallest.
-- What is open is exactly what can be entered, so this is the step to show next.
use Prim.Native.Nat.{ℕ, ◌<◌, ◌≤◌}
use mathlib.Core.Path.{◌≡◌, refl}
use mathlib.Core.Logic.{inl}
use mathlib.Core.Bool.{Bool, true, false}
use mathlib.Core.List.{List}
use native.Mathlib.Omega.{arith}
use native.Mathlib.Decide.{ℕ_discrete, dec_lt}
use lib.ListN.{length, get_or, get_or-eq_default}
use Rattle.std.specs.Prelude.{Option, None, is_some}
use Rattle.meaning.specs.Expression.{Rec, starring}
use Rattle.fewest.specs.Frame.{Frame}
use Rattle.path.specs.declared.Taken.{Taken}
use Rattle.path.specs.Pick.{Enters, Carries, Candidate, Picked}
use Rattle.path.specs.Flags.{Open, Exactly}
use Rattle.path.specs.Offers.{Smallest, found, none, Serves, SmallestOf, SmallestOpen}
use Rattle.path.proofs.Carrying.{carries_by}
use Rattle.path.proofs.Stepping.{smallest_none}

-- What is offered may be told otherwise.
smallest_as : {C D : ℕ → ℕ → ℕ → Type 0} {p : Option Taken} → ((r k u : ℕ) → C r k u → D r k u) → ((r k u : ℕ) → D r k u → C r k u) →
    Smallest C p → Smallest D p
smallest_as f g (found c least) = found (f _ _ _ c) (λ r k u d. least r k u (g r k u d))
smallest_as f g (none n) = none (λ r k u d. n r k u (g r k u d))

-- One record, if it is open.
module _ {F : Frame} {T : List ℕ} {rs : List Rec} {X : List Bool} {t d r : ℕ} where
  pub of_open : {p : Option Taken} → Open X r → Smallest (λ q k u. (q ≡ r) × Serves F T rs t d q k u) p → SmallestOf F T rs X t d r p
  of_open o = smallest_as (λ q k u x. (x.0, (rw x.0 o, x.1))) (λ q k u x. (x.0, x.1.1))

  pub of_shut : get_or X r false ≡ true → SmallestOf F T rs X t d r None
  of_shut n = smallest_none (λ q k u. Open X q × Serves F T rs t d q k u) r (λ k u x. let c = x.0.clear in let z : ◌≡◌ {A = ℕ} 0 1 = cc in absurd (omega arith))

  pub of_none : ((k u : ℕ) → Carries F T rs r k t u → ⊥) → SmallestOf F T rs X t d r None
  of_none n = smallest_none (λ q k u. Open X q × Serves F T rs t d q k u) r (λ k u x. n k u x.1.0)

-- record q offers nothing
abbrev pub Barren : Frame → List ℕ → List Rec → List Bool → (t d q : ℕ) → Type 0
Barren F T rs X t d q = (k u : ℕ) → Open X q × Serves F T rs t d q k u → ⊥

-- The open records, one after another.
module _ {F : Frame} {T : List ℕ} {rs : List Rec} {X : List Bool} {t d r : ℕ} where
  pub open_found : {p : Option Taken} → is_some p ≡ true → SmallestOf F T rs X t d r p → ((q : ℕ) → q < r → Barren F T rs X t d q) →
      SmallestOpen F T rs X t d p
  open_found e (found (same, x) least) idle = found x λ q k u z. elim (dec_lt q r) [
    | yes h ↦ absurd (idle q h k u z)
    | no h ↦ elim (ℕ_discrete q r) [
      | yes i ↦ least q k u (i, z)
      | no i ↦ inl (omega arith)
    ]
  ]
  open_found e (none n) idle = let z : ◌≡◌ {A = ℕ} 0 1 = cc in absurd (omega arith)

  pub open_idle : {p : Option Taken} → is_some p ≡ false → SmallestOf F T rs X t d r p → Barren F T rs X t d r
  open_idle e (found c least) k u x = let z : ◌≡◌ {A = ℕ} 0 1 = cc in omega arith
  open_idle e (none n) k u x = n r k u (refl, x)

  pub open_none : length rs ≤ r → ((q : ℕ) → q < r → Barren F T rs X t d q) → SmallestOpen F T rs X t d None
  open_none h idle = none λ q k u x. elim (dec_lt q r) [
    | yes l ↦ idle q l k u x
    | no l ↦ carries_by starring (get_or-eq_default rs starring (omega arith)) x.1.0
  ]

-- What is open is exactly what can be entered, so the smallest step of the open records is the smallest candidate.
pub open_picked : {F : Frame} {T : List ℕ} {rs : List Rec} {first : List ℕ} {X : List Bool} {x : Option ℕ} {t d : ℕ} {p : Option Taken} →
    Exactly (Enters F rs first t x) X → SmallestOpen F T rs X t d p → Picked F T rs first x t d p
open_picked {F} {T} {rs} {first} {X} {x} {t} {d} exact small = picked (smallest_as
    (λ r k u c. record { enters = exact.sound r c.0; carries = c.1.0; left = c.1.1.left; least = c.1.1.least })
    (λ r k u c. (exact.whole r c.enters, (c.carries, record { left = c.left; least = c.least }))) small)
  where
    picked : {p : Option Taken} → Smallest (Candidate F T rs first x t d) p → Picked F T rs first x t d p
    picked (found c least) = (c, least)
    picked (none n) = n
