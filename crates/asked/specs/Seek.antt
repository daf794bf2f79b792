-- What the functions over the byte table promise, one record each, over the marks.
-- A look at a marked question marks its test, and what follows where it is done.
use Rattle.std.specs.Prelude.{ℕ, ◌*◌, ◌-◌, ◌^◌, ◌<◌, ◌≤◌, ◌≡◌, Bool, true, false, List, length, get_or, set}
use Rattle.meaning.specs.Limits.{terms, records}
use Rattle.meaning.specs.Site as meant
use Rattle.meaning.specs.Move.{Axis, self, Move, any, only}
use Rattle.meaning.specs.Fewest.{Goal}
use Rattle.records.specs.declared.Label.{Label}
use Rattle.records.specs.declared.Label.TheVariants.{Any, Term, Test}
use Rattle.records.specs.Sites.{site_of}
use Rattle.records.specs.Rules.{records_of}
use Rattle.fewest.specs.Frame.{Frame, frame}
use Rattle.fewest.specs.Next.{Next, Home}
use Rattle.fewest.specs.Offer.{Work, stepping, resting}
use Rattle.fewest.specs.Work.{work_of, allowing}
use Rattle.asked.specs.declared.follow.After.{After}
use Rattle.asked.specs.Words.{sets, bit}
use Rattle.asked.specs.Mark.{Marks, marks, Marked, Done, Marking, MarkedFrom}
use Rattle.asked.specs.Serve.{markeds, SetMarked}

-- the byte table has its length
unfoldable pub Whole : List ℕ → Type 0
Whole b = length b ≡ records * terms

-- each entry is 0 or 1
unfoldable pub Bits : List ℕ → Type 0
Bits b = (i : ℕ) → get_or b i 0 ≤ 1

-- the marks of the byte table's words, and the ends
abbrev pub marks_in : List ℕ → List ℕ → Marks
marks_in b ends = marks (markeds b) ends

-- the question of record r at t is marked where this says so, and else none is
pub record MarkedIf (p : Bool) (r t : ℕ) (b b' : List ℕ) : Type 0 where
  pub marked : p ≡ true → SetMarked (2 ^ r) t b b'
  pub left : p ≡ false → markeds b' ≡ markeds b

-- the end u is marked, where the table reaches so far
pub record OneArrived (u : ℕ) (b b' : List ℕ) : Type 0 where
  pub fresh : u < length b → get_or b u 0 ≡ 0 → b' ≡ set b u 1
  pub old : u < length b → get_or b u 0 ≡ 1 → b' ≡ b
  pub outside : length b ≤ u → b' ≡ b

-- the same where this says so, and else none is
pub record ArrivedIf (p : Bool) (u : ℕ) (b b' : List ℕ) : Type 0 where
  pub marked : p ≡ true → OneArrived u b b'
  pub left : p ≡ false → b' ≡ b

-- what follows record r's expression at u is marked
pub record AllNext (F : Frame) (r u : ℕ) (M : Marks) : Type 0 where
  pub next : (b : ℕ) → Next F r b → Marked M b u
  pub home : u < length M.ends → Home F r → get_or M.ends u 0 ≡ 1

-- the records that are asked next where record r's expression is done, and whether the whole rule is done
pub record Onward (up role : List ℕ) (r : ℕ) (x : After) : Type 0 where
  pub small : x.set < sets
  pub next : (s : meant.Site) (g : Goal) (q : ℕ) → Next (frame s up role g) r q → (q < records) × (bit x.set q ≡ 1)
  pub only : (s : meant.Site) (g : Goal) (q : ℕ) → q < records → bit x.set q ≡ 1 → Next (frame s up role g) r q
  pub home : (s : meant.Site) (g : Goal) → Home (frame s up role g) r → x.home ≡ true
  pub ends : (s : meant.Site) (g : Goal) → x.home ≡ true → Home (frame s up role g) r

-- where record r's expression is done at u, by whatever work, only what it asks for was marked, and what follows is
abbrev pub FollowedUp : List ℕ → List ℕ → ℕ → ℕ → Marks → Marks → Type 0
FollowedUp up role r u M M' =
    (s : meant.Site) (g : Goal) (T : List ℕ) (w : Work) → Done (frame s up role g) T M r u w →
    Marking (frame s up role g) T w r M M' × AllNext (frame s up role g) r u M'

-- a label that is a test
abbrev pub is_test : Label → Bool
is_test Any = false
is_test (Term n) = false
is_test Test = true

-- the test of record r is asked at the middle i, and where the label allows i, what follows at u is marked
pub record CalmBy (F : Frame) (T : List ℕ) (l : Label) (r i u : ℕ) (M : Marks) : Type 0 where
  pub test : l ≡ Test → Marked M (r - 1) i
  pub next : allowing T l r i ≡ true → AllNext F r u M

-- By this work one goes from t past the middle i to u, where the label allows i: along a move; by a named self anywhere;
-- by an empty round of a star, which has no label.
pub data Goes (s : meant.Site) : Label → Work → (t i u : ℕ) → Type 0 where
  along : {a : Axis} {l : Label} {k t i u : ℕ} → Move s a any k t i u → Goes s l (work_of a l) t i u
  at_name : {n t : ℕ} → Goes s (Term n) (stepping self (only n)) t t t
  in_place : {t : ℕ} → meant.Voc s t → Goes s Any resting t t t

-- from a marked question of record r past the middle i to u, by whatever work: only what it asks for was marked, and that is
abbrev pub Pursued : List ℕ → List ℕ → List ℕ → Label → (r i u : ℕ) → Marks → Marks → Type 0
Pursued up role T l r i u M M' =
    (s : meant.Site) (g : Goal) (w : Work) (t : ℕ) → t < terms → Marked M r t → Goes s l w t i u →
    Marking (frame s up role g) T w r M M' × CalmBy (frame s up role g) T l r i u M'

-- all that the whole rule at z asks is marked, and nothing else
abbrev pub MarkedOver : List ℕ → ℕ → List ℕ → List ℕ → List ℕ → List ℕ → List ℕ → ℕ → ℕ → Marks → Type 0
MarkedOver b n rule up role first T z k M = (g : Goal) → MarkedFrom (frame (site_of b n) up role g) T (records_of rule) first z k M
