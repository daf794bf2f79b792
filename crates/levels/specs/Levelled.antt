-- What the levels promise: they lower entries to what is offered, and store in free cells alone. Which offers they looked at is not
-- said: that nothing is missing is found by the sweeps that follow.
use Rattle.std.specs.Prelude.{ℕ, ◌≡◌, List, length, get_or, Option, Some}
use Rattle.meaning.specs.Site as meant
use Rattle.meaning.specs.Move.{Axis, Move, any}
use Rattle.meaning.specs.Fewest.{Goal}
use Rattle.records.specs.declared.Axis.{Axis as CodeAxis}
use Rattle.records.specs.declared.Label.{Label}
use Rattle.records.specs.declared.Label.TheVariants.{Any}
use Rattle.records.specs.declared.Step.{Step}
use Rattle.records.specs.declared.Record.{Record}
use Rattle.records.specs.declared.Record.TheVariants as kind
use Rattle.records.specs.Sites.{site_of}
use Rattle.records.specs.Rules.{rec_of, record_at, records_of}
use Rattle.fewest.specs.declared.look.Moved.{Moved}
use Rattle.fewest.specs.declared.look.Parts.{Parts}
use Rattle.fewest.specs.declared.task.Task.{Task}
use Rattle.fewest.specs.Pairs.{pairs}
use Rattle.fewest.specs.Frame.{Frame, frame}
use Rattle.fewest.specs.Offer.{works_of, Lowers, Settles}
use Rattle.fewest.specs.Kept.{Kept}
use Rattle.fewest.specs.Work.{goal_of, work_of, staying, parts_of, Rows}

-- staying was tried for row r, wherever
abbrev pub Stayed : Frame → Label → ℕ → ℕ → List ℕ → List ℕ → Type 0
Stayed F l cost r T T' = (cost ≡ 0 → l ≡ Any) → Lowers F (staying cost l) r T T'

-- a move for a step of record r with this label was tried, whatever triple and axis make it
abbrev pub Reached : Moved → Label → List ℕ → List ℕ → Goal → ℕ → List ℕ → List ℕ → Type 0
Reached m l up role g r T T' =
    (s : meant.Site) (a : Axis) (k : ℕ) → Move s a any k m.from m.middle m.to → Lowers (frame s up role g) (work_of a l) r T T'

-- an axis that takes triples, and takes them so
abbrev pub TakesBy : Option CodeAxis → Parts → Type 0
TakesBy axis p = (a : CodeAxis) × (axis ≡ Some a) × (p ≡ parts_of a)

-- some of the works of record r were tried
abbrev pub RecordWorked : Frame → Record → ℕ → ℕ → List ℕ → List ℕ → Type 0
RecordWorked F x f r T T' = Rows (λ w. Lowers F w r) (works_of (rec_of x) r f) T T'

-- record r is this step
unfoldable pub Stepping : (rule starts : List ℕ) → ℕ → Step → Type 0
Stepping rule starts r x = record_at rule (get_or starts r 0) ≡ kind.Step x

-- the lent table N became N' by lowering along offers alone; which of them were looked at is not said
pub record Hinted (b : List ℕ) (n : ℕ) (rule up role first : List ℕ) (g : Goal) (N N' : List ℕ) : Type 0 where
  pub long : length N' ≡ length N
  pub reached : Settles (frame (site_of b n) up role g) (records_of rule) first (pairs N) (pairs N')

-- the numbers are reached by lowering, and of scratch the threads are kept
pub record Levelled (b : List ℕ) (n : ℕ) (rule up role first : List ℕ) (g : Goal) (N N' X X' : List ℕ) : Type 0 where
  pub numbers : Hinted b n rule up role first g N N'
  pub scratch : Kept X X'

-- the same of a task
abbrev pub HintedFor : Task → List ℕ → List ℕ → Type 0
HintedFor t N N' =
    Hinted t.site.bytes.now t.site.triples t.rule.bytes.now t.ahead.links.now.up t.ahead.links.now.role t.ahead.links.now.first (goal_of t.ahead.goal) N N'

abbrev pub LevelledFor : Task → List ℕ → List ℕ → List ℕ → List ℕ → Type 0
LevelledFor t N N' X X' =
    Levelled t.site.bytes.now t.site.triples t.rule.bytes.now t.ahead.links.now.up t.ahead.links.now.role t.ahead.links.now.first (goal_of t.ahead.goal) N N' X X'
