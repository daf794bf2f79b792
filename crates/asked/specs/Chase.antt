-- What the chase promises. A question that is asked on asks for nothing unmarked, and stays so, because marks only grow.
-- Where it looks and in what order is a hint and promised of nothing.
use Rattle.std.specs.Prelude.{ℕ, ◌<◌, ◌≤◌, ◌≡◌, length, get_or}
use mathlib.Core.List.{List, Memᴰ}
use Rattle.meaning.specs.Limits.{terms}
use Rattle.meaning.specs.Move.{self}
use Rattle.meaning.specs.Expression.{Rec, starring}
use Rattle.meaning.specs.Fewest.{Goal}
use Rattle.records.specs.declared.Label.{Label}
use Rattle.records.specs.declared.Label.TheVariants.{Any}
use Rattle.records.specs.declared.Step.{Step}
use Rattle.records.specs.declared.Record.{Record}
use Rattle.records.specs.Sites.{site_of}
use Rattle.records.specs.Rules.{axis_meant, rec_of, records_of}
use Rattle.fewest.specs.Frame.{Frame, frame}
use Rattle.fewest.specs.Kept.{Below}
use Rattle.fewest.specs.Offer.{Work, resting, works_of}
use Rattle.fewest.specs.Threads.{Threads}
use Rattle.fewest.specs.Work.{work_of, Nameless, Rows}
use Rattle.asked.specs.Mark.{Marks, marks, blank, Marking, CalmAt, MarksOn}
use Rattle.asked.specs.Serve.{markeds, serveds, Served}

-- the question of record r at t was asked on by this work: only what it asks for was marked, and nothing of it is unmarked
abbrev pub WorkAsked : Frame → List ℕ → Work → ℕ → ℕ → Marks → Marks → Type 0
WorkAsked F T w r t M M' = Marking F T w r M M' × CalmAt F T w r t M'

-- by a step
abbrev pub StepAsked : List ℕ → ℕ → Step → List ℕ → List ℕ → List ℕ → ℕ → ℕ → Marks → Marks → Type 0
StepAsked b n x up role T r t M M' =
    (g : Goal) → WorkAsked (frame (site_of b n) up role g) T (work_of (axis_meant x.axis) x.label) r t M M'

-- the work that a stay with this label is: a star's empty round has no label, a self step has its own
pub data Stay : Label → Work → Type 0 where
  as_empty : Stay Any resting
  as_step : {l : Label} → Stay l (work_of self l)

-- by staying, where the threads are the site's
abbrev pub StayAsked : ℕ → List ℕ → List ℕ → List ℕ → List ℕ → Label → ℕ → ℕ → Marks → Marks → Type 0
StayAsked n X up role T l r t M M' =
    (b : List ℕ) (g : Goal) (w : Work) → Threads b n X → Nameless l → Stay l w → WorkAsked (frame (site_of b n) up role g) T w r t M M'

-- by each work of a record
abbrev pub RecordAsked : List ℕ → ℕ → Record → ℕ → List ℕ → List ℕ → List ℕ → ℕ → ℕ → Marks → Marks → Type 0
RecordAsked b n x f up role T r t M M' =
    (g : Goal) → let F = frame (site_of b n) up role g in Rows (λ w. Marking F T w r) (works_of (rec_of x) r f) M M' ×
    ((w : Work) → Memᴰ w (works_of (rec_of x) r f) → CalmAt F T w r t M')

-- each question that is served asks for nothing unmarked
pub record Answered (F : Frame) (T : List ℕ) (rs : List Rec) (first b ends : List ℕ) : Type 0 where
  pub each : (r t : ℕ) → r < length rs → t < terms → Served b r t →
      (w : Work) → Memᴰ w (works_of (get_or rs r starring) r (get_or first r 0)) → CalmAt F T w r t (marks (markeds b) ends)

-- only what is asked for was marked, each served question is answered if it was, none is served no longer, and the threads are as they
-- were
pub record Chased (site : List ℕ) (n : ℕ) (rule up role first T b ends b' ends' : List ℕ) : Type 0 where
  pub reached : (g : Goal) → MarksOn (frame (site_of site n) up role g) T (records_of rule) first (marks (markeds b) ends) (marks (markeds b') ends')
  pub answered : (g : Goal) → let F = frame (site_of site n) up role g in Answered F T (records_of rule) first b ends →
      Answered F T (records_of rule) first b' ends'
  pub long : length b' ≡ length b
  pub fewer : blank (serveds b') ≤ blank (serveds b)
  pub below : Below b b'
