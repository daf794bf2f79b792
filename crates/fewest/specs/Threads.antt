-- The triples threaded by their terms, in cells: for each term its first triple, for each triple the next with the same predicate
-- and object. By subject the next is the triple after. Who goes from the first to the next meets every triple of the term, in order.
use Rattle.std.specs.Prelude.{ℕ, suc, ◌+◌, ◌<◌, ◌≤◌, ◌≡◌, List, length, get_or, set, Option, Some, None, MatchOption}
use Rattle.meaning.specs.Limits.{terms, triples}
use Rattle.meaning.specs.Site.{Triple, Site, triple}
use Rattle.meaning.specs.Move.{start, finish, middle, Axis, self, ahead, inverse}
use Rattle.records.specs.declared.Axis.{Axis as CodeAxis}
use Rattle.records.specs.declared.Axis.TheVariants as code
use Rattle.records.specs.Sites.{Accepted, site_of}
use Rattle.records.specs.Rules.{axis_of}
use Rattle.fewest.specs.Cells.{cells, nothing}

-- where the first triples stand, by subject, by predicate and by object, and where the next ones do; what is behind them is free
abbrev pub subject_first : ℕ
subject_first = 0

abbrev pub predicate_first : ℕ
predicate_first = subject_first + terms

abbrev pub object_first : ℕ
object_first = predicate_first + terms

abbrev pub predicate_next : ℕ
predicate_next = object_first + terms

abbrev pub object_next : ℕ
object_next = predicate_next + triples

abbrev pub free : ℕ
free = object_next + triples

-- j is the first triple from number k on, of n, whose key is t; n or more where there is none
pub record FirstWith (key : ℕ → ℕ) (n t k j : ℕ) : Type 0 where
  pub own : j < n → (k ≤ j) × (key j ≡ t)
  pub least : (i : ℕ) → k ≤ i → i < n → key i ≡ t → j ≤ i

-- of n triples the first of each term from number k on stands in a cell from this place on
abbrev pub Firsts : (ℕ → ℕ) → (n at_first : ℕ) → List ℕ → ℕ → Type 0
Firsts key n at_first C k = (t : ℕ) → t < terms → FirstWith key n t k (get_or C (at_first + t) 0)

-- of n triples those from number k on are threaded by this key, in cells from these two places on
pub record Threaded (key : ℕ → ℕ) (n at_first at_next : ℕ) (C : List ℕ) (k : ℕ) : Type 0 where
  pub first : Firsts key n at_first C k
  pub next : (i : ℕ) → k ≤ i → i < n → FirstWith key n (key i) (suc i) (get_or C (at_next + i) 0)

abbrev pub subject_of : List ℕ → ℕ → ℕ → ℕ
subject_of b n j = (triple (site_of b n) j).subject

abbrev pub predicate_of : List ℕ → ℕ → ℕ → ℕ
predicate_of b n j = (triple (site_of b n) j).predicate

abbrev pub object_of : List ℕ → ℕ → ℕ → ℕ
object_of b n j = (triple (site_of b n) j).object

-- the triples from number k on are threaded by all three
pub record ThreadsFrom (b : List ℕ) (n k : ℕ) (X : List ℕ) : Type 0 where
  pub subjects : Firsts (subject_of b n) n subject_first (cells X) k
  pub predicates : Threaded (predicate_of b n) n predicate_first predicate_next (cells X) k
  pub objects : Threaded (object_of b n) n object_first object_next (cells X) k

-- all of them are
abbrev pub Threads : List ℕ → ℕ → List ℕ → Type 0
Threads b n X = ThreadsFrom b n 0 X

-- every cell names nothing
abbrev pub Blank : List ℕ → Type 0
Blank X = (i : ℕ) → i + i + 1 < length X → get_or (cells X) i 0 ≡ nothing

-- triple k becomes the first of a thread: it is put in the thread's cell, and what stood there in the triple's own
pub record Headed (first next k : ℕ) (C D : List ℕ) : Type 0 where
  pub stored : D ≡ set (set C next (get_or C first 0)) first k

-- triple k was threaded, and those behind it are as they were
abbrev pub ThreadedOne : List ℕ → ℕ → List ℕ → List ℕ → Type 0
ThreadedOne b k X Y = (n : ℕ) → Accepted b n → k < n → ThreadsFrom b n (suc k) X → ThreadsFrom b n k Y

-- where a triple starts along an axis; staying takes none
abbrev pub start_along : Axis → Triple → ℕ
start_along self x = x.subject
start_along (ahead d) x = start d x
start_along (inverse d) x = finish d x

-- where triple j starts by the code's axis
abbrev pub start_by : CodeAxis → Site → ℕ → ℕ
start_by axis s j = start_along (axis_of axis) (triple s j)

-- by threads the first triple that starts at t, along an axis
abbrev pub ThreadFirst : List ℕ → CodeAxis → (t j : ℕ) → Type 0
ThreadFirst X axis t j = (b : List ℕ) (n : ℕ) → Threads b n X → t < terms → FirstWith (start_by axis (site_of b n)) n t 0 j

-- where the first triples of an axis's threads stand
abbrev pub firsts_of : CodeAxis → ℕ
firsts_of code.Next = subject_first
firsts_of code.NextInverse = object_first
firsts_of code.Edge = subject_first
firsts_of code.EdgeInverse = predicate_first
firsts_of code.Node = predicate_first
firsts_of code.NodeInverse = object_first

-- and the next ones; nowhere, if the site's order tells them
abbrev pub nexts_of : CodeAxis → Option ℕ
nexts_of code.Next = None
nexts_of code.NextInverse = Some object_next
nexts_of code.Edge = None
nexts_of code.EdgeInverse = Some predicate_next
nexts_of code.Node = Some predicate_next
nexts_of code.NodeInverse = Some object_next

-- a later triple than k; by threads the next that starts at t, where k does, along an axis whose next triples stand there
pub record ThreadNext (b : List ℕ) (n : ℕ) (X : List ℕ) (by : Option ℕ) (t k j : ℕ) : Type 0 where
  pub later : k < j
  pub next : (axis : CodeAxis) → by ≡ nexts_of axis → Threads b n X → start_by axis (site_of b n) k ≡ t →
      FirstWith (start_by axis (site_of b n)) n t (suc k) j

-- a later triple than k; the next with subject t, where k has it
pub record SubjectNext (b : List ℕ) (n t k j : ℕ) : Type 0 where
  pub later : k < j
  pub next : subject_of b n k ≡ t → FirstWith (subject_of b n) n t (suc k) j

-- a walk by an axis from a term: where its next triples stand, and the term
abbrev pub Along : CodeAxis → ℕ → Option ℕ → ℕ → Type 0
Along axis t by term = (by ≡ nexts_of axis) × (term ≡ t)

-- a step hands out the triple at which the walk is, of n, and leaves it at the next; or there is none
abbrev pub Stepped : (b : List ℕ) (n : ℕ) (X : List ℕ) (by : Option ℕ) (t at next : ℕ) → Option ℕ → Type 0
Stepped b n X by t at next handed = MatchOption handed (n ≤ at) (λ k. (k ≡ at) × (k < n) × ThreadNext b n X by t k next)

-- the middle that a triple has along an axis; staying takes none
abbrev pub middle_along : Axis → Triple → ℕ
middle_along self x = x.subject
middle_along (ahead d) x = middle d x
middle_along (inverse d) x = middle d x

-- where a triple ends along an axis; staying takes none
abbrev pub finish_along : Axis → Triple → ℕ
finish_along self x = x.subject
finish_along (ahead d) x = finish d x
finish_along (inverse d) x = start d x

-- an axis that starts at this place of each triple
abbrev pub StartsAt : (Triple → ℕ) → CodeAxis → Type 0
StartsAt place by = (x : Triple) → start_along (axis_of by) x ≡ place x

-- where another has its middle, and where another ends
abbrev pub AtMiddle : Axis → CodeAxis → Type 0
AtMiddle a by = StartsAt (middle_along a) by

abbrev pub AtFinish : Axis → CodeAxis → Type 0
AtFinish a by = StartsAt (finish_along a) by
