-- What the questions promise, of a task: its site, its rule and its links stand in one value, so that a clause is read at a glance.
use Rattle.std.specs.Prelude.{ℕ, ◌<◌, List}
use Rattle.meaning.specs.Limits.{terms, records}
use Rattle.records.specs.declared.Label.{Label}
use Rattle.records.specs.declared.Step.{Step}
use Rattle.records.specs.declared.Record.{Record}
use Rattle.fewest.specs.declared.task.Task.{Task}
use Rattle.fewest.specs.Pairs.{pairs}
use Rattle.fewest.specs.Tasks.{ThreadsOf}
use Rattle.asked.specs.declared.follow.After.{After}
use Rattle.asked.specs.Mark.{Marks, Marked}
use Rattle.asked.specs.Seek.{Bits, marks_in, Onward, Pursued, MarkedOver}
use Rattle.asked.specs.Chase.{StepAsked, StayAsked, RecordAsked, Chased}

-- what asking on from the question of record r at t stands on: it is marked, in tables with the site's threads
pub record AtQuestion (x : Task) (X ends : List ℕ) (r t : ℕ) : Type 0 where
  pub bits : Bits ends
  pub row : r < records
  pub small : t < terms
  pub threads : ThreadsOf x X
  pub marked : Marked (marks_in X ends) r t

-- so record r goes on where its expression is done
abbrev pub OnwardIn : Task → ℕ → After → Type 0
OnwardIn x r y = Onward x.ahead.links.now.up x.ahead.links.now.role r y

-- what was asked on by a look, by a step, by staying and by each work of a record; N are the bytes of the number table
abbrev pub PursuedIn : Task → List ℕ → Label → (r i u : ℕ) → Marks → Marks → Type 0
PursuedIn x N l r i u M M' = Pursued x.ahead.links.now.up x.ahead.links.now.role (pairs N) l r i u M M'

abbrev pub StepAskedIn : Task → List ℕ → Step → ℕ → ℕ → Marks → Marks → Type 0
StepAskedIn x N s r t M M' = StepAsked x.site.bytes.now x.site.triples s x.ahead.links.now.up x.ahead.links.now.role (pairs N) r t M M'

abbrev pub StayAskedIn : Task → List ℕ → List ℕ → Label → ℕ → ℕ → Marks → Marks → Type 0
StayAskedIn x N X l r t M M' = StayAsked x.site.triples X x.ahead.links.now.up x.ahead.links.now.role (pairs N) l r t M M'

abbrev pub RecordAskedIn : Task → List ℕ → Record → ℕ → ℕ → ℕ → Marks → Marks → Type 0
RecordAskedIn x N y f r t M M' = RecordAsked x.site.bytes.now x.site.triples y f x.ahead.links.now.up x.ahead.links.now.role (pairs N) r t M M'

abbrev pub ChasedIn : Task → List ℕ → List ℕ → List ℕ → List ℕ → List ℕ → Type 0
ChasedIn x N b ends b' ends' =
    Chased x.site.bytes.now x.site.triples x.rule.bytes.now x.ahead.links.now.up x.ahead.links.now.role x.ahead.links.now.first (pairs N) b ends b' ends'

-- all that the whole rule at z asks is marked, and nothing else; n ends are lent
abbrev pub MarkedIn : Task → List ℕ → (z n : ℕ) → Marks → Type 0
MarkedIn x N z n M =
    MarkedOver x.site.bytes.now x.site.triples x.rule.bytes.now x.ahead.links.now.up x.ahead.links.now.role x.ahead.links.now.first (pairs N) z n M
