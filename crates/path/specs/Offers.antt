-- What the functions that look for a step promise: of the steps that one record, or all open records, offer, the smallest.
use Rattle.std.specs.Prelude.{ℕ, ◌≤◌, ◌≡◌, Bool, true, Option, Some, None, List, get_or}
use Rattle.meaning.specs.Site.{Site, Voc}
use Rattle.meaning.specs.Move.{Axis}
use Rattle.meaning.specs.Expression.{Rec, starring}
use Rattle.meaning.specs.Fewest.{Goal}
use Rattle.records.specs.declared.Label.{Label}
use Rattle.records.specs.declared.Label.TheVariants.{Any, Term, Test}
use Rattle.records.specs.Rules.{labelled}
use Rattle.fewest.specs.declared.look.Moved.{Moved}
use Rattle.fewest.specs.Frame.{Frame, frame}
use Rattle.fewest.specs.Offer.{Continues}
use Rattle.fewest.specs.Work.{allowing}
use Rattle.path.specs.declared.Taken.{Taken}
use Rattle.fewest.specs.Tells.{Tells}
use Rattle.path.specs.Pick.{Carries, NoLater}
use Rattle.path.specs.Flags.{Open}

-- once record r's expression is finished at u, d more steps are left at the least
pub record Leaves (F : Frame) (T : List ℕ) (r u d : ℕ) : Type 0 where
  pub left : Continues F T r u d
  pub least : (v : ℕ) → Continues F T r u v → d ≤ v

-- the move begins at t, the label of record r lets its middle pass, and where it ends d steps are left
pub record Suits (F : Frame) (T : List ℕ) (l : Label) (r : ℕ) (m : Moved) (t d : ℕ) : Type 0 where
  pub begins : m.from ≡ t
  pub passes : allowing T l r m.middle ≡ true
  pub leaves : Leaves F T r m.to d

abbrev pub Suited : List ℕ → List ℕ → Goal → List ℕ → Label → (r : ℕ) → Moved → (t d : ℕ) → Bool → Type 0
Suited up role g T l r m t d b = (s : Site) → Tells (Suits (frame s up role g) T l r m t d) b

-- where a self step may stay: at a word, unless it is named; then its name says where
abbrev pub Stay : Site → Label → ℕ → Type 0
Stay s Any t = Voc s t
Stay s (Term n) t = Unit
Stay s Test t = Voc s t

abbrev pub MayStay : Bool → Label → Bool → Type 0
MayStay word l b = (s : Site) (t : ℕ) → Tells (Voc s t) word → Tells (Stay s l t) b

-- of the steps that are offered, each by its record, its triple and the term reached, the one picked is offered and none is
-- earlier; nothing is picked only where none is offered
pub data Smallest (C : ℕ → ℕ → ℕ → Type 0) : Option Taken → Type 0 where
  found : {y : Taken} → C y.by y.over y.to → ((r k u : ℕ) → C r k u → NoLater y.by y.over r k) → Smallest C (Some y)
  none : ((r k u : ℕ) → C r k u → ⊥) → Smallest C None

-- record r is a step that takes t to u by triple k and leaves d
abbrev pub Serves : Frame → List ℕ → List Rec → (t d r k u : ℕ) → Type 0
Serves F T rs t d r k u = Carries F T rs r k t u × Leaves F T r u d

-- the smallest step of record r, which is a step with this axis and label
abbrev pub SmallestBy : Frame → List ℕ → Axis → Label → (t d r : ℕ) → Option Taken → Type 0
SmallestBy F T a l t d r p = (rs : List Rec) → get_or rs r starring ≡ labelled a l → Smallest (λ q k u. (q ≡ r) × Serves F T rs t d q k u) p

-- the smallest step of record r, if it is open
abbrev pub SmallestOf : Frame → List ℕ → List Rec → List Bool → (t d r : ℕ) → Option Taken → Type 0
SmallestOf F T rs X t d r p = Smallest (λ q k u. (q ≡ r) × (Open X q × Serves F T rs t d q k u)) p

-- the smallest step of all open records
abbrev pub SmallestOpen : Frame → List ℕ → List Rec → List Bool → (t d : ℕ) → Option Taken → Type 0
SmallestOpen F T rs X t d p = Smallest (λ q k u. Open X q × Serves F T rs t d q k u) p
