-- The walk along the path that is shown: where it stands, what it has done and how many steps are to go.
-- For loops' invariants, not for promises: that a walk by the steps picked shows the path is proved once.
use Rattle.std.specs.Prelude.{ℕ, ◌+◌, ◌<◌, ◌≡◌, Some, List, [], ◌∷◌, ◌++◌, length, Option, None}
use Rattle.meaning.specs.Limits.{terms, none}
use Rattle.meaning.specs.Site.{Site, Within}
use Rattle.meaning.specs.Expression.{Rec, Expr, last, Expression, Context, whole, plug}
use Rattle.meaning.specs.Path.{Path, taken}
use Rattle.meaning.specs.Shown.{Shown}
use Rattle.meaning.specs.Fewest.{Goal, State, entered, finished, Way, Fewest, Numbers}
use Rattle.fewest.specs.declared.links.Links.{Links}
use Rattle.fewest.specs.Frame.{Linked, Frame}
use Rattle.fewest.specs.Offer.{view}
use Rattle.path.specs.declared.Taken.{Taken}
use Rattle.path.specs.Pick.{Picked}

-- what the walk goes by: the records and the links are the rule's, and the table is its number table
pub record Known (rs : List Rec) (rule : Expr) (L : Links) (s : Site) (g : Goal) (T : List ℕ) : Type 0 where
  pub expression : Expression rs rule
  pub linked : Linked rule L
  pub within : Within s
  pub numbers : Numbers s g rule (view T)

-- the state of the rule at which the walk stands: the rule entered, or a record's expression finished
pub data Stands (rule : Expr) : Option ℕ → ℕ → State → Type 0 where
  at_begin : {t : ℕ} → Stands rule None t (entered rule whole t)
  at_end : {e : Expr} {K : Context} {r t : ℕ} → plug e K ≡ rule → last e ≡ r → Stands rule (Some r) t (finished e K t)

-- The walk that began at z, with n steps to go, has done these and stands so at t, with d to go: the path shown from
-- there, put after what is done, is the path shown of the whole.
pub record Walking (s : Site) (g : Goal) (rule : Expr) (z n : ℕ) (done : Path) (x : Option ℕ) (t d : ℕ) : Type 0 where
  pub state : State
  pub stands : Stands rule x t state
  pub below : t < terms
  pub some : d < none
  pub left : Fewest (Way s g state) d
  pub count : d + length done ≡ n
  pub shows : (p : Path) → Shown (Way s g state) p → Shown (Way s g (entered rule whole z)) (done ++ p)

-- the same told by the numbers alone: from z, with n to go, each step done was picked where the walk then stood
pub data Walked (F : Frame) (T : List ℕ) (rs : List Rec) (first : List ℕ) (z n : ℕ) : Path → Option ℕ → ℕ → ℕ → Type 0 where
  begun : Walked F T rs first z n [] None z n
  more : {done : Path} {x : Option ℕ} {t m d : ℕ} {y : Taken} → Walked F T rs first z n done x t m → m ≡ d + 1 → Picked F T rs first x t d (Some y) →
      Walked F T rs first z n (done ++ (taken y.by y.over y.to ∷ [])) (Some y.by) y.to d
