-- The step to show next: of the steps that the walk may take where it stands, and that leave as few as are left, the
-- smallest by record number, then triple number.
use Rattle.std.specs.Prelude.{ℕ, ◌+◌, ◌-◌, ◌<◌, ◌≤◌, ◌≡◌, ◌⊎◌, Option, Some, None, length, get_or}
use mathlib.Core.List.{List, Memᴰ}
use Rattle.meaning.specs.Limits.{none}
use Rattle.meaning.specs.Site.{Voc}
use Rattle.meaning.specs.Move.{Axis, Label, Move, any}
use Rattle.meaning.specs.Expression.{Rec, plain, testing, starring}
use Rattle.fewest.specs.Frame.{Frame}
use Rattle.fewest.specs.Next.{Next}
use Rattle.fewest.specs.Offer.{view, copying, works_of, Continues}
use Rattle.path.specs.declared.Taken.{Taken}

-- standing so at term t, record b's expression can be entered at no cost
pub data Enters (F : Frame) (rs : List Rec) (first : List ℕ) (t : ℕ) : Option ℕ → ℕ → Type 0 where
  begin : {b : ℕ} → b + 1 ≡ length rs → Enters F rs first t None b
  after : {r b : ℕ} → Next F r b → Enters F rs first t (Some r) b
  inward : {x : Option ℕ} {r b : ℕ} → Enters F rs first t x r → r < length rs → Memᴰ (copying b) (works_of (get_or rs r starring) r (get_or first r 0)) → Enters F rs first t x b
  past : {x : Option ℕ} {r b : ℕ} → Enters F rs first t x r → get_or rs r starring ≡ starring → r < length rs → Voc F.site t → Next F r b → Enters F rs first t x b

-- record r is a step that triple k takes from t to u, its label allowing the middle or its test holding there
pub data Carries (F : Frame) (T : List ℕ) (rs : List Rec) (r k t u : ℕ) : Type 0 where
  by_step : {a : Axis} {l : Label} {m : ℕ} → get_or rs r starring ≡ plain a l → Move F.site a l k t m u → Carries F T rs r k t u
  by_test : {a : Axis} {m : ℕ} → get_or rs r starring ≡ testing a → Move F.site a any k t m u → view T (r - 1) m < none → Carries F T rs r k t u

-- a step that may be taken, after which d more are left at the least
pub record Candidate (F : Frame) (T : List ℕ) (rs : List Rec) (first : List ℕ) (x : Option ℕ) (t d r k u : ℕ) : Type 0 where
  pub enters : Enters F rs first t x r
  pub carries : Carries F T rs r k t u
  pub left : Continues F T r u d
  pub least : (v : ℕ) → Continues F T r u v → d ≤ v

-- record r and triple k are no later than record q and triple j
abbrev pub NoLater : ℕ → ℕ → ℕ → ℕ → Type 0
NoLater r k q j = (r < q) ⊎ ((r ≡ q) × (k ≤ j))

-- the step picked is a candidate and none is earlier; nothing is picked only where there is no candidate
abbrev pub Picked : (F : Frame) (T : List ℕ) (rs : List Rec) (first : List ℕ) (x : Option ℕ) (t d : ℕ) → Option Taken → Type 0
Picked F T rs first x t d (Some y) =
    Candidate F T rs first x t d y.by y.over y.to ×
    ((r k u : ℕ) → Candidate F T rs first x t d r k u → NoLater y.by y.over r k)
Picked F T rs first x t d None = (r k u : ℕ) → Candidate F T rs first x t d r k u → ⊥
