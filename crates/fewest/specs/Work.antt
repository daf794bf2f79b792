-- What the functions over the table promise, one record each, over the table's list of numbers.
-- The work of a step, of a star's empty rounds and of a row, looked at offer by offer.
use Rattle.std.specs.Prelude.{ℕ, ◌+◌, ◌-◌, ◌<◌, ◌≤◌, ◌≡◌, ◌≢◌, Bool, true, false, cond, length, get_or, eqb, ltb}
use mathlib.Core.List.{List, Memᴰ}
use Rattle.meaning.specs.Limits.{terms, records, none}
use Rattle.meaning.specs.Site as meant
use Rattle.meaning.specs.Move.{Axis, self, Move, any, only}
use Rattle.meaning.specs.Expression.{starring}
use Rattle.meaning.specs.Fewest.{end, anywhere}
use Rattle.meaning.specs.Fewest as meaning
use Rattle.records.specs.declared.Axis.{Axis as CodeAxis}
use Rattle.records.specs.declared.Axis.TheVariants as code
use Rattle.records.specs.declared.Label.{Label}
use Rattle.records.specs.declared.Label.TheVariants.{Any, Term, Test}
use Rattle.records.specs.declared.Step.{Step}
use Rattle.records.specs.declared.Record.{Record}
use Rattle.records.specs.declared.Record.TheVariants as kind
use Rattle.records.specs.Sites.{subject_part, predicate_part, object_part, term_at, Accepted, site_of}
use Rattle.records.specs.Rules.{axis_of, axis_meant, rec_of, record_at, rec_at, records_of}
use Rattle.fewest.specs.declared.Goal.{Goal}
use Rattle.fewest.specs.declared.Goal.TheVariants.{End, Anywhere}
use Rattle.fewest.specs.declared.look.Moved.{Moved}
use Rattle.fewest.specs.declared.look.Parts.{Parts}
use Rattle.fewest.specs.Frame.{as_whole, Climbs, Frame, frame}
use Rattle.fewest.specs.Offer.{view, Continues, Work, stepping, proving, copying, resting, works_of, Offer, Lowers, Quiet, Settles, Settled}
use Rattle.fewest.specs.Sweep.{sum, Swept}
use Rattle.fewest.specs.Threads.{Threads, StartsAt}

-- the code's goal is the meaning's
abbrev pub goal_of : Goal → meaning.Goal
goal_of (End v) = end v
goal_of Anywhere = anywhere

-- v is the least number that may follow record r's expression at u
pub record Least (up role : List ℕ) (g : meaning.Goal) (T : List ℕ) (r u v : ℕ) : Type 0 where
  pub among : (s : meant.Site) → Continues (frame s up role g) T r u v
  pub least : (s : meant.Site) (w : ℕ) → Continues (frame s up role g) T r u w → v ≤ w
  pub top : v ≤ none

-- the work of a step with this axis and label
abbrev pub work_of : Axis → Label → Work
work_of a Any = stepping a any
work_of a (Term n) = stepping a (only n)
work_of a Test = proving a

-- the label of record r lets this middle pass; a test is the row before
abbrev pub allowing : List ℕ → Label → ℕ → ℕ → Bool
allowing T Any r m = true
allowing T (Term n) r m = eqb m n
allowing T Test r m = ltb (view T (r - 1) m) none

-- where the terms stand in a triple's record, as an axis takes them
abbrev pub parts_of : CodeAxis → Parts
parts_of code.Next = record { from = subject_part; middle = predicate_part; to = object_part }
parts_of code.NextInverse = record { from = object_part; middle = predicate_part; to = subject_part }
parts_of code.Edge = record { from = subject_part; middle = object_part; to = predicate_part }
parts_of code.EdgeInverse = record { from = predicate_part; middle = object_part; to = subject_part }
parts_of code.Node = record { from = predicate_part; middle = subject_part; to = object_part }
parts_of code.NodeInverse = record { from = object_part; middle = subject_part; to = predicate_part }

-- an axis takes them so
abbrev pub Axial : Parts → Type 0
Axial p = (a : CodeAxis) × (p ≡ parts_of a)

-- triple number k from a term to a term, past a middle, where they stand so
unfoldable pub moved_at : List ℕ → ℕ → Parts → Moved
moved_at b k p = record { from = term_at b k p.from; middle = term_at b k p.middle; to = term_at b k p.to }

-- the work of staying at a term: a star's empty round costs no step, a self step one
abbrev pub staying : ℕ → Label → Work
staying cost l = cond (eqb cost 0) resting (work_of self l)

-- one look: row r is swept by this work, and where nothing changed, what Q says was seen
abbrev pub Looks : Frame → Work → ℕ → (List ℕ → Type 0) → List ℕ → List ℕ → Bool → Bool → Type 0
Looks F w r Q T T' was now = Swept sum (Lowers F w r) Q T T' was now

-- nothing that this work offers to row r at term t is lower
abbrev pub QuietAt : Frame → Work → ℕ → ℕ → List ℕ → Type 0
QuietAt F w r t T = (v : ℕ) → Offer F T r t w v → view T r t ≤ v

-- a whole row swept from another
abbrev pub RowSwept : ℕ → ℕ → List ℕ → List ℕ → Bool → Bool → Type 0
RowSwept a r T T' was now = (F : Frame) → Swept sum (Lowers F (copying a) r) (Quiet F (copying a) r) T T' was now

-- a label that record r may have: its name is a term; its test is the row before, so it is not the first record
abbrev pub Tests : Label → ℕ → Type 0
Tests Any r = Unit
Tests (Term n) r = n < terms
Tests Test r = 0 < r

-- triple number k is one of the site that the bytes are
abbrev pub Has : List ℕ → ℕ → Type 0
Has b k = (n : ℕ) × Accepted b n × (k < n)

-- no step by triple number k offers record r a lower number
abbrev pub QuietBy : Frame → Axis → Label → ℕ → ℕ → List ℕ → Type 0
QuietBy F a l r k T = (t m u v : ℕ) → Move F.site a any k t m u → allowing T l r m ≡ true → Continues F T r u v → view T r t ≤ v + 1

-- a look at triple k for a step of record r with this label, by any axis that takes it so
abbrev pub Looked : List ℕ → ℕ → Parts → Label → List ℕ → List ℕ → meaning.Goal → ℕ → List ℕ → List ℕ → Bool → Bool → Type 0
Looked b k p l up role g r T T' was now =
    (n : ℕ) (a : CodeAxis) → Accepted b n → k < n → p ≡ parts_of a →
    Looks (frame (site_of b n) up role g) (work_of (axis_of a) l) r (QuietBy (frame (site_of b n) up role g) (axis_of a) l r k) T T' was now

-- where one may stay: at a vocabulary term; at a named term, where the step is named
pub data MayRest (s : meant.Site) : Label → ℕ → ℕ → Type 0 where
  at_word : {l : Label} {cost t : ℕ} → meant.Voc s t → MayRest s l cost t
  at_name : {n cost t : ℕ} → cost ≡ 1 → MayRest s (Term n) cost t

-- staying at t was looked at; an empty round has no label
abbrev pub Rested : List ℕ → List ℕ → meaning.Goal → Label → ℕ → ℕ → ℕ → List ℕ → List ℕ → Bool → Bool → Type 0
Rested up role g l cost r t T T' was now =
    (s : meant.Site) → MayRest s l cost t → (cost ≡ 0 → l ≡ Any) →
    Looks (frame s up role g) (staying cost l) r (QuietAt (frame s up role g) (staying cost l) r t) T T' was now

-- a label without a name
abbrev pub Nameless : Label → Type 0
Nameless Any = Unit
Nameless (Term n) = ⊥
Nameless Test = Unit

-- this work's whole row was looked at
abbrev pub WorkSwept : Frame → Work → ℕ → List ℕ → List ℕ → Bool → Bool → Type 0
WorkSwept F w r T T' was now = Swept sum (Lowers F w r) (Quiet F w r) T T' was now

-- staying at each vocabulary term was looked at
abbrev pub RestsSwept : List ℕ → ℕ → List ℕ → List ℕ → meaning.Goal → Label → ℕ → ℕ → List ℕ → List ℕ → Bool → Bool → Type 0
RestsSwept b n up role g l cost r T T' was now =
    Nameless l → (cost ≡ 0 → l ≡ Any) → WorkSwept (frame (site_of b n) up role g) (staying cost l) r T T' was now

abbrev pub AxisSwept : List ℕ → ℕ → CodeAxis → Label → List ℕ → List ℕ → meaning.Goal → ℕ → List ℕ → List ℕ → Bool → Bool → Type 0
AxisSwept b n a l up role g r T T' was now = WorkSwept (frame (site_of b n) up role g) (work_of (axis_of a) l) r T T' was now

-- a self step was looked at wherever it may stay
abbrev pub SelfSwept : List ℕ → ℕ → Label → List ℕ → List ℕ → meaning.Goal → ℕ → List ℕ → List ℕ → Bool → Bool → Type 0
SelfSwept b n l up role g r T T' was now = WorkSwept (frame (site_of b n) up role g) (work_of self l) r T T' was now

-- record r finishes the rule, and at v alone, if that is a term
abbrev pub OnlyEnd : List ℕ → meaning.Goal → ℕ → ℕ → Type 0
OnlyEnd role g r v = v < terms → (get_or role r 0 ≡ as_whole) × (g ≡ end v)

-- a triple that has another term than this at a place offers a step of record r nothing that is lower
abbrev pub Others : List ℕ → ℕ → (meant.Triple → ℕ) → ℕ → List ℕ → List ℕ → meaning.Goal → Axis → Label → ℕ → List ℕ → Type 0
Others b n place term up role g a l r T =
    (i : ℕ) → place (meant.triple (site_of b n) i) ≢ term → QuietBy (frame (site_of b n) up role g) a l r i T

-- the triples of a thread were looked at: by threads of the site, all that may offer something
pub record ThreadSwept (b : List ℕ) (n : ℕ) (X : List ℕ) (a : CodeAxis) (l : Label) (by : CodeAxis) (term : ℕ) (up role : List ℕ) (g : meaning.Goal) (r : ℕ) (T T' : List ℕ) (was now : Bool) : Type 0 where
  pub reached : Lowers (frame (site_of b n) up role g) (work_of (axis_of a) l) r T T'
  pub swept : Threads b n X → (place : meant.Triple → ℕ) → StartsAt place by → Others b n place term up role g (axis_of a) l r T →
      WorkSwept (frame (site_of b n) up role g) (work_of (axis_of a) l) r T T' was now

abbrev pub StepSwept : List ℕ → ℕ → Step → List ℕ → List ℕ → meaning.Goal → ℕ → List ℕ → List ℕ → Bool → Bool → Type 0
StepSwept b n x up role g r T T' was now = WorkSwept (frame (site_of b n) up role g) (work_of (axis_meant x.axis) x.label) r T T' was now

-- a record that record number r may be: its label sits there, and what it takes stands before it
abbrev pub Sits : Record → ℕ → Type 0
Sits (kind.Step x) r = Tests x.label r
Sits kind.Sequence r = Unit
Sits kind.Choice r = 0 < r
Sits kind.Star r = 0 < r

-- a table is changed by these works, each as R says
pub data Rows {A : Type 0} (R : Work → A → A → Type 0) (ws : List Work) : A → A → Type 0 where
  idle : {T : A} → Rows R ws T T
  worked : {T U W : A} {w : Work} → Rows R ws T U → Memᴰ w ws → R w U W → Rows R ws T W

-- each of these works was done; where nothing changed, each has seen what Q says
abbrev pub WorksSwept : {A : Type 0} (μ : A → ℕ) (R : Work → A → A → Type 0) (Q : Work → A → Type 0) (ws : List Work) (T U : A) (was now : Bool) → Type 0
WorksSwept μ R Q ws T U was now = Swept μ (Rows R ws) (λ X. (w : Work) → Memᴰ w ws → Q w X) T U was now

abbrev pub RecordSwept : List ℕ → ℕ → Record → ℕ → List ℕ → List ℕ → meaning.Goal → ℕ → List ℕ → List ℕ → Bool → Bool → Type 0
RecordSwept b n x f up role g r T T' was now =
    WorksSwept sum (λ w. Lowers (frame (site_of b n) up role g) w r) (λ w. Quiet (frame (site_of b n) up role g) w r) (works_of (rec_of x) r f) T T' was now

-- what the sweeps stand on: a good site, the rule's records at their places, and links that climb inside these
pub record Ready (site : List ℕ) (n : ℕ) (rule starts : List ℕ) (count : ℕ) (up role first : List ℕ) : Type 0 where
  pub good : Accepted site n
  pub climbs : Climbs records up role
  pub counted : count ≡ length (records_of rule)
  pub few : count ≤ records
  pub inside : (r : ℕ) → r < count → get_or role r 0 ≢ as_whole → get_or up r 0 < count
  pub firsts : (r : ℕ) → r < count → get_or first r 0 < count
  pub reads : (r : ℕ) → r < count → rec_at rule (get_or starts r 0) ≡ get_or (records_of rule) r starring
  pub sits : (r : ℕ) → r < count → Sits (record_at rule (get_or starts r 0)) r

abbrev pub SweptOver : List ℕ → ℕ → List ℕ → List ℕ → List ℕ → List ℕ → meaning.Goal → List ℕ → List ℕ → Bool → Type 0
SweptOver b n rule up role first g T T' now =
    Swept sum (Settles (frame (site_of b n) up role g) (records_of rule) first) (Settled (frame (site_of b n) up role g) (records_of rule) first) T T' false now

-- the table is reached by lowering, and nothing offered is lower
pub record SettledOver (b : List ℕ) (n : ℕ) (rule up role first : List ℕ) (g : meaning.Goal) (T T' : List ℕ) : Type 0 where
  pub reached : Settles (frame (site_of b n) up role g) (records_of rule) first T T'
  pub settled : Settled (frame (site_of b n) up role g) (records_of rule) first T'
