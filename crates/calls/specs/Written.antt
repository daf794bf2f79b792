-- What the writers promise, in either form: the path shown fills the front of the room, and the rest keeps its contents
-- (document 01, "Lent tables").
use Rattle.std.specs.Prelude.{ℕ, ◌+◌, ◌*◌, ◌<◌, ◌≤◌, ◌≡◌, List, ◌++◌, length, get_or, take, drop, set}
use Rattle.meaning.specs.Limits.{terms, none}
use Rattle.meaning.specs.Site.{Site}
use Rattle.meaning.specs.Expression.{Rec, Expr, whole}
use Rattle.meaning.specs.Path.{Path}
use Rattle.meaning.specs.Shown.{Shown}
use Rattle.meaning.specs.Fewest.{Goal, entered, Way, Fewest}
use Rattle.records.specs.Bytes.{base}
use Rattle.records.specs.Sites.{site_of}
use Rattle.records.specs.Rules.{records_of}
use Rattle.fewest.specs.declared.task.Task.{Task}
use Rattle.fewest.specs.Frame.{Links}
use Rattle.fewest.specs.Pairs.{pairs}
use Rattle.fewest.specs.Work.{goal_of}
use Rattle.path.specs.declared.Taken.{Taken}
use Rattle.path.specs.Walking.{Known}
use Rattle.calls.specs.Tables.{written}
use Rattle.calls.specs.Promise.{Form, as_words, as_bytes, numbers_of, lent, length_in}

-- the front of a list becomes these, and the rest of it stays
abbrev pub front : List ℕ → List ℕ → List ℕ
front vs l = vs ++ drop (length vs) l

-- row r of a table of numbers
abbrev pub row_of : List ℕ → ℕ → List ℕ
row_of T r = take terms (drop (r * terms) T)

-- each number of the step fits 16 bits
pub record Small (x : Taken) : Type 0 where
  pub by : x.by < base * base
  pub over : x.over < base * base
  pub to : x.to < base * base

-- step i of a path is written at its place
abbrev pub StepWritten : ℕ → Taken → List ℕ → List ℕ → Type 0
StepWritten i x l l' = l' ≡ set (set (set l (3 * i) x.by) (3 * i + 1) x.over) (3 * i + 2) x.to

-- the rule is this expression, and from z its fewest steps are n
pub record StepsOf (rs : List Rec) (L : Links) (s : Site) (g : Goal) (T : List ℕ) (z n : ℕ) (e : Expr) : Type 0 where
  pub known : Known rs e L s g T
  pub fewest : Fewest (Way s g (entered e whole z)) n

-- there is a path of n steps to be walked from z
pub record Walkable (rs : List Rec) (L : Links) (s : Site) (g : Goal) (T : List ℕ) (z n : ℕ) : Type 0 where
  pub rule : Expr
  pub steps : StepsOf rs L s g T z n rule
  pub some : n < none

-- the room holds n steps
pub record Roomy (f : Form) (n : ℕ) (room : List ℕ) : Type 0 where
  pub numbers : ℕ
  pub long : length room ≡ length_in f numbers
  pub enough : 3 * n ≤ numbers

-- it holds so many and no more
pub record Holds (f : Form) (n : ℕ) (room : List ℕ) : Type 0 where
  pub roomy : Roomy f n room
  pub most : (i : ℕ) → n < i → length room < length_in f (3 * i)

-- every entry is a byte
abbrev pub Bytes : List ℕ → Type 0
Bytes b = (i : ℕ) → get_or b i 0 < base

-- what every lent slice is: one of bytes has bytes
abbrev pub Slice : Form → List ℕ → Type 0
Slice as_words l = Unit
Slice as_bytes l = Bytes l

-- step i of a path is put at its place of a room, in either form
pub record StepPut (f : Form) (i : ℕ) (x : Taken) (l l' : List ℕ) : Type 0 where
  pub stored : StepWritten i x (numbers_of f l) (numbers_of f l')
  pub long : length l' ≡ length l
  pub before : Slice f l
  pub after : Slice f l'

-- the path shown from z, of n steps, fills the front of the room
pub record PathWritten (f : Form) (rs : List Rec) (L : Links) (s : Site) (g : Goal) (T : List ℕ) (z n : ℕ) (room room' : List ℕ) : Type 0 where
  pub path : Path
  pub long : length path ≡ n
  pub shown : (e : Expr) → StepsOf rs L s g T z n e → Shown (Way s g (entered e whole z)) path
  pub fits : length (lent f (written path)) ≤ length room
  pub fills : room' ≡ front (lent f (written path)) room

-- both of a task, where these are the bytes of its number table
abbrev pub WalkableFor : Task → List ℕ → (z n : ℕ) → Type 0
WalkableFor t N z n =
    Walkable (records_of t.rule.bytes.now) t.ahead.links.now (site_of t.site.bytes.now t.site.triples) (goal_of t.ahead.goal) (pairs N) z n

abbrev pub WrittenFor : Form → Task → List ℕ → (z n : ℕ) → List ℕ → List ℕ → Type 0
WrittenFor f t N z n room room' =
    PathWritten f (records_of t.rule.bytes.now) t.ahead.links.now (site_of t.site.bytes.now t.site.triples) (goal_of t.ahead.goal) (pairs N) z n room room'
