-- What is promised over a whole task, in the words for its parts.
use Rattle.std.specs.Prelude.{List, ℕ, Bool}
use Rattle.records.specs.Sites.{site_of}
use Rattle.fewest.specs.declared.task.Task.{Task}
use Rattle.fewest.specs.Frame.{Frame, frame}
use Rattle.fewest.specs.Threads.{Threads}
use Rattle.fewest.specs.Work.{goal_of, SweptOver, SettledOver}

-- what a walk over the task's number table is about: its site, its links and its goal
abbrev pub framed : Task → Frame
framed t = frame (site_of t.site.bytes.now t.site.triples) t.ahead.links.now.up t.ahead.links.now.role (goal_of t.ahead.goal)

-- scratch has the threads of the task's site
abbrev pub ThreadsOf : Task → List ℕ → Type 0
ThreadsOf t X = Threads t.site.bytes.now t.site.triples X

abbrev pub SweptFor : Task → List ℕ → List ℕ → Bool → Type 0
SweptFor t T T' now =
    let L = t.ahead.links.now in
    SweptOver t.site.bytes.now t.site.triples t.rule.bytes.now L.up L.role L.first (goal_of t.ahead.goal) T T' now

abbrev pub SettledFor : Task → List ℕ → List ℕ → Type 0
SettledFor t T T' =
    let L = t.ahead.links.now in
    SettledOver t.site.bytes.now t.site.triples t.rule.bytes.now L.up L.role L.first (goal_of t.ahead.goal) T T'
