-- What a table of numbers offers to a row: the numbers to which its entries may be lowered.
-- Every loop over the table only lowers entries to what is offered; when nothing offered is lower, the table is closed.
use Rattle.std.specs.Prelude.{ℕ, ◌+◌, ◌*◌, ◌-◌, ◌<◌, ◌≤◌, ◌≡◌, length, get_or, set}
use mathlib.Core.List.{List, [], ◌∷◌, Memᴰ}
use Rattle.meaning.specs.Limits.{terms, none}
use Rattle.meaning.specs.Site.{Voc}
use Rattle.meaning.specs.Move.{Axis, Label, Move, any}
use Rattle.meaning.specs.Expression.{Rec, plain, testing, joining, choosing, starring}
use Rattle.meaning.specs.Left.{home_left}
use Rattle.fewest.specs.Frame.{as_whole, as_test, as_first, as_round, Frame}

-- the table's entry of record r at term t
abbrev pub place : ℕ → ℕ → ℕ
place r t = r * terms + t

unfoldable pub view : List ℕ → ℕ → ℕ → ℕ
view T r t = get_or T (place r t) 0

-- once record r's expression is finished at u, v more steps may finish its body; the second of a sequence and the operand of
-- a star are the record before it
pub data Continues (F : Frame) (T : List ℕ) : ℕ → ℕ → ℕ → Type 0 where
  home : {r u : ℕ} → get_or F.role r 0 ≡ as_whole → Continues F T r u (home_left F.goal u)
  held : {r u : ℕ} → get_or F.role r 0 ≡ as_test → Continues F T r u 0
  on : {r u : ℕ} → get_or F.role r 0 ≡ as_first → Continues F T r u (view T (get_or F.up r 0 - 1) u)
  again : {r u : ℕ} → get_or F.role r 0 ≡ as_round → Continues F T r u (view T (get_or F.up r 0 - 1) u)
  ending : {r u v : ℕ} → get_or F.role r 0 ≡ as_round → Continues F T (get_or F.up r 0) u v → Continues F T r u v

-- a record's row is lowered by work of four kinds: along a step; along a step whose test is the row before; from another
-- row, place by place; at the vocabulary, where a star may pass empty
pub data Work : Type 0 where
  stepping : Axis → Label → Work
  proving : Axis → Work
  copying : ℕ → Work
  resting : Work

-- the work of a record
abbrev pub works_of : Rec → (r f : ℕ) → List Work
works_of (plain a l) r f = stepping a l ∷ []
works_of (testing a) r f = proving a ∷ []
works_of joining r f = copying f ∷ []
works_of choosing r f = copying f ∷ (copying (r - 1) ∷ [])
works_of starring r f = copying (r - 1) ∷ (resting ∷ [])

-- the table offers v to record r at term t
pub data Offer (F : Frame) (T : List ℕ) (r t : ℕ) : Work → ℕ → Type 0 where
  by_step : {a : Axis} {l : Label} {k m u v : ℕ} → Move F.site a l k t m u → Continues F T r u v → Offer F T r t (stepping a l) (v + 1)
  by_test : {a : Axis} {k m u v : ℕ} → Move F.site a any k t m u → view T (r - 1) m < none → Continues F T r u v → Offer F T r t (proving a) (v + 1)
  by_row : {a : ℕ} → Offer F T r t (copying a) (view T a t)
  by_rest : {v : ℕ} → Voc F.site t → Continues F T r t v → Offer F T r t resting v

-- the table is reached by lowering entries of row r to what this work offers
pub data Lowers (F : Frame) (w : Work) (r : ℕ) : List ℕ → List ℕ → Type 0 where
  stay : {T : List ℕ} → Lowers F w r T T
  lower : {T U : List ℕ} {t v : ℕ} → Lowers F w r T U → t < terms → Offer F U r t w v → v < view U r t → Lowers F w r T (set U (place r t) v)

-- nothing that this work offers to row r is lower
abbrev pub Quiet : Frame → Work → ℕ → List ℕ → Type 0
Quiet F w r T = (t v : ℕ) → t < terms → Offer F T r t w v → view T r t ≤ v

-- the same over the records of a rule
pub data Settles (F : Frame) (rs : List Rec) (first : List ℕ) : List ℕ → List ℕ → Type 0 where
  rest : {T : List ℕ} → Settles F rs first T T
  work : {T U W : List ℕ} {r : ℕ} {w : Work} → Settles F rs first T U → r < length rs →
      Memᴰ w (works_of (get_or rs r starring) r (get_or first r 0)) → Lowers F w r U W → Settles F rs first T W

pub record Settled (F : Frame) (rs : List Rec) (first : List ℕ) (T : List ℕ) : Type 0 where
  pub quiet : (r : ℕ) (w : Work) → r < length rs → Memᴰ w (works_of (get_or rs r starring) r (get_or first r 0)) → Quiet F w r T
