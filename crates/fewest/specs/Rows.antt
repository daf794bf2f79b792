-- What looks that store nothing tell: of one row against another, of a row against what may follow a record's expression, and of the
-- triples of a step against a row. With them a row is quiet, and nothing is swept.
use Rattle.std.specs.Prelude.{ℕ, ◌+◌, ◌-◌, ◌<◌, ◌≤◌, ◌≡◌, true, List}
use Rattle.meaning.specs.Limits.{terms}
use Rattle.meaning.specs.Site.{Site}
use Rattle.meaning.specs.Move.{Axis, Move, any}
use Rattle.meaning.specs.Left.{home_left}
use Rattle.meaning.specs.Fewest.{Goal}
use Rattle.records.specs.declared.Axis.{Axis as CodeAxis}
use Rattle.records.specs.declared.Label.{Label}
use Rattle.records.specs.Sites.{Accepted, site_of}
use Rattle.records.specs.Rules.{axis_of}
use Rattle.fewest.specs.declared.look.Parts.{Parts}
use Rattle.fewest.specs.Frame.{frame}
use Rattle.fewest.specs.Offer.{view, Continues, copying, resting, Quiet}
use Rattle.fewest.specs.Work.{work_of, allowing, parts_of}

-- row b is nowhere above row a
abbrev pub RowBelow : ℕ → ℕ → List ℕ → Type 0
RowBelow b a T = (t : ℕ) → t < terms → view T b t ≤ view T a t

-- row b is nowhere above what is left at the rule's own finish
abbrev pub HomeBelow : Goal → ℕ → List ℕ → Type 0
HomeBelow g b T = (t : ℕ) → t < terms → view T b t ≤ home_left g t

-- row b is nowhere above a number that may follow record r's expression
abbrev pub Bounds : List ℕ → List ℕ → Goal → ℕ → ℕ → List ℕ → Type 0
Bounds up role g b r T = (s : Site) (t v : ℕ) → t < terms → Continues (frame s up role g) T r t v → view T b t ≤ v

-- an entry that no step to u lowers, if row b tells what is left there
pub record Reaches (T : List ℕ) (b r t u : ℕ) : Type 0 where
  pub inside : u < terms
  pub near : view T r t ≤ view T b u + 1

-- no step of record r by triple k lowers an entry, if row b tells what is left
abbrev pub KeptBy : Site → Axis → Label → ℕ → ℕ → ℕ → List ℕ → Type 0
KeptBy s a l b r k T = (t m u : ℕ) → Move s a any k t m u → allowing T l r m ≡ true → Reaches T b r t u

-- so for triple k of a site, by any axis that takes it so
abbrev pub Keeps : List ℕ → ℕ → Parts → Label → ℕ → ℕ → List ℕ → Type 0
Keeps bytes k p l b r T =
    (n : ℕ) (a : CodeAxis) → Accepted bytes n → k < n → p ≡ parts_of a → KeptBy (site_of bytes n) (axis_of a) l b r k T

-- and for each triple, by this axis
abbrev pub KeepsAll : List ℕ → ℕ → CodeAxis → Label → ℕ → ℕ → List ℕ → Type 0
KeepsAll bytes n a l b r T = (k : ℕ) → k < n → Keeps bytes k (parts_of a) l b r T

-- nothing that a step of record r with this axis and label offers is lower
abbrev pub StepQuiet : List ℕ → ℕ → CodeAxis → Label → List ℕ → List ℕ → Goal → ℕ → List ℕ → Type 0
StepQuiet bytes n a l up role g r T = Quiet (frame (site_of bytes n) up role g) (work_of (axis_of a) l) r T

-- nothing that the star of record r offers is lower, neither its round nor passing empty
abbrev pub StarQuiet : List ℕ → List ℕ → Goal → ℕ → List ℕ → Type 0
StarQuiet up role g r T = (s : Site) → Quiet (frame s up role g) (copying (r - 1)) r T × Quiet (frame s up role g) resting r T
