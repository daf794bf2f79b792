-- The byte table and the ends, by marks: what the marks ask for, and when nothing asked for is unmarked.
-- Every loop only marks what is asked for; when each question that is marked was asked on, the marks are the questions.
use Rattle.std.specs.Prelude.{ℕ, ◌*◌, ◌-◌, ◌<◌, ◌≡◌, length, get_or, set, replicate}
use mathlib.Core.List.{List, map, Memᴰ}
use Rattle.meaning.specs.Limits.{terms, records, none}
use Rattle.meaning.specs.Site.{Voc}
use Rattle.meaning.specs.Move.{Axis, Label, Move, any}
use Rattle.meaning.specs.Expression.{Rec, starring}
use Rattle.fewest.specs.Frame.{Frame}
use Rattle.fewest.specs.Next.{Next, Home}
use Rattle.fewest.specs.Offer.{place, view, Work, stepping, proving, copying, resting, works_of}
use Rattle.fewest.specs.Sweep.{sum}

-- the two tables that are marked: of questions, row by record and place by term, and of ends, place by term
pub record Marks : Type 0 where
  pub asked : List ℕ
  pub ends : List ℕ

abbrev pub marks : List ℕ → List ℕ → Marks
marks asked ends = record { asked = asked; ends = ends }

-- to begin with, the whole rule is asked at z, and nothing else is marked; r is its record, and n ends are lent
unfoldable pub begun : (r z n : ℕ) → Marks
begun r z n = marks (set (replicate (records * terms) 0) (place r z) 1) (replicate n 0)

-- how many entries are unmarked, which falls with each mark
unfoldable pub blank : List ℕ → ℕ
blank l = sum (map (λ x. 1 - x) l)

-- the question of record r at t is marked
abbrev pub Marked : Marks → ℕ → ℕ → Type 0
Marked M r t = view M.asked r t ≡ 1

-- By this work the question of record r at t leads to u, where its expression is done. T is the number table, which tells
-- whether a test holds.
pub data Leads (F : Frame) (T : List ℕ) (r t u : ℕ) : Work → Type 0 where
  by_step : {a : Axis} {l : Label} {k i : ℕ} → Move F.site a l k t i u → Leads F T r t u (stepping a l)
  by_test : {a : Axis} {k i : ℕ} → Move F.site a any k t i u → view T (r - 1) i < none → Leads F T r t u (proving a)
  by_rest : u ≡ t → Voc F.site t → Leads F T r t u resting

-- By this work the question of record r at t asks for record b at v: what follows where r is done; a test at each middle; an
-- operand where its parent is asked.
pub data Wants (F : Frame) (T : List ℕ) (r t b v : ℕ) : Work → Type 0 where
  follows : {w : Work} → Leads F T r t v w → Next F r b → Wants F T r t b v w
  tests : {a : Axis} {k u : ℕ} → b ≡ r - 1 → Move F.site a any k t v u → Wants F T r t b v (proving a)
  enters : {q : ℕ} → b ≡ q → v ≡ t → Wants F T r t b v (copying q)

-- by this work of record r, which is marked at some term, its expression is done at u
pub data Done (F : Frame) (T : List ℕ) (M : Marks) (r u : ℕ) (w : Work) : Type 0 where
  done : {t : ℕ} → Marked M r t → t < terms → Leads F T r t u w → Done F T M r u w

-- and record b's is asked at v
pub data Asking (F : Frame) (T : List ℕ) (M : Marks) (r b v : ℕ) (w : Work) : Type 0 where
  asking : {t : ℕ} → Marked M r t → t < terms → Wants F T r t b v w → Asking F T M r b v w

-- the marks are reached by marking what this work of record r asks for, and the ends at which it is done
pub data Marking (F : Frame) (T : List ℕ) (w : Work) (r : ℕ) : Marks → Marks → Type 0 where
  stay : {M : Marks} → Marking F T w r M M
  mark : {M N : Marks} {b t : ℕ} → Marking F T w r M N → t < terms → Asking F T N r b t w → view N.asked b t ≡ 0 →
      Marking F T w r M (marks (set N.asked (place b t) 1) N.ends)
  arrive : {M N : Marks} {u : ℕ} → Marking F T w r M N → u < length N.ends → Done F T N r u w → Home F r → get_or N.ends u 0 ≡ 0 →
      Marking F T w r M (marks N.asked (set N.ends u 1))

-- nothing that the question of record r at t asks for by this work is unmarked
pub record CalmAt (F : Frame) (T : List ℕ) (w : Work) (r t : ℕ) (M : Marks) : Type 0 where
  pub asks : (b v : ℕ) → v < terms → Wants F T r t b v w → Marked M b v
  pub arrives : (u : ℕ) → u < length M.ends → Leads F T r t u w → Home F r → get_or M.ends u 0 ≡ 1

-- the same of each question of record r that is marked
abbrev pub Calm : Frame → List ℕ → Work → ℕ → Marks → Type 0
Calm F T w r M = (t : ℕ) → t < terms → Marked M r t → CalmAt F T w r t M

-- the same over the records of a rule
pub data MarksOn (F : Frame) (T : List ℕ) (rs : List Rec) (first : List ℕ) : Marks → Marks → Type 0 where
  rest : {M : Marks} → MarksOn F T rs first M M
  work : {M N P : Marks} {r : ℕ} {w : Work} → MarksOn F T rs first M N → r < length rs →
      Memᴰ w (works_of (get_or rs r starring) r (get_or first r 0)) → Marking F T w r N P → MarksOn F T rs first M P

pub record MarkedOut (F : Frame) (T : List ℕ) (rs : List Rec) (first : List ℕ) (M : Marks) : Type 0 where
  pub calm : (r : ℕ) (w : Work) → r < length rs → Memᴰ w (works_of (get_or rs r starring) r (get_or first r 0)) → Calm F T w r M

-- from the whole rule's question at z only what is asked for was marked, and nothing asked for is unmarked; n ends are lent
pub record MarkedFrom (F : Frame) (T : List ℕ) (rs : List Rec) (first : List ℕ) (z n : ℕ) (M : Marks) : Type 0 where
  pub reached : MarksOn F T rs first (begun (length rs - 1) z n) M
  pub out : MarkedOut F T rs first M
