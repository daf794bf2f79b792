-- Which questions are marked and which wait to be asked on, in the words of the byte table. A question that was asked on is served;
-- what is done for others leaves it so, and leaves the threads before the words.
use Rattle.std.specs.Prelude.{ℕ, Option, None, Some, ◌+◌, ◌*◌, ◌-◌, ◌<◌, max, ◌≡◌, Bool, true, false, ◌⊎◌, ◌≢◌, List, length, get_or, set}
use Rattle.std.specs.Int.Bits.{bit_xor}
use Rattle.meaning.specs.Limits.{terms, records}
use Rattle.fewest.specs.Kept.{Below}
use Rattle.fewest.specs.Offer.{place, view}
use Rattle.asked.specs.Words.{size, bit, word, listed, marks_at, waits_at, questions}
use Rattle.asked.specs.Mark.{blank}

-- for each question 1 if it is marked
abbrev pub markeds : List ℕ → List ℕ
markeds b = questions marks_at b

-- 1 if it is to be asked on
abbrev pub waitings : List ℕ → List ℕ
waitings b = questions waits_at b

-- the question at this place is marked and waits
pub record Waits (b : List ℕ) (i : ℕ) : Type 0 where
  pub marked : get_or (markeds b) i 0 ≡ 1
  pub waits : get_or (waitings b) i 0 ≡ 1

-- none of the first n does
abbrev pub NoneWaits : List ℕ → ℕ → Type 0
NoneWaits b n = (i : ℕ) → i < n → Waits b i → ⊥

-- a question of the first n records that waits, if one does
abbrev pub LeftOver : ℕ → List ℕ → Option (ℕ × ℕ) → Type 0
LeftOver n b None = NoneWaits b (n * terms)
LeftOver n b (Some (r, t)) = (r < n) × (t < terms) × Waits b (place r t)

-- 1 where a question is marked and does not wait
unfoldable pub serveds : List ℕ → List ℕ
serveds b = listed (λ i. get_or (markeds b) i 0 - get_or (waitings b) i 0) (records * terms)

-- the question of record r at t was asked on
abbrev pub Served : List ℕ → ℕ → ℕ → Type 0
Served b r t = view (serveds b) r t ≡ 1

-- more are served
abbrev pub Fewer : List ℕ → List ℕ → Type 0
Fewer b b' = blank (serveds b') < blank (serveds b)

-- the same questions are served, and the threads are as they were
pub record Kept (b b' : List ℕ) : Type 0 where
  pub long : length b' ≡ length b
  pub served : serveds b' ≡ serveds b
  pub below : Below b b'

-- no mark was changed, no question is served that was not, and the threads are as they were
pub record Aside (b b' : List ℕ) : Type 0 where
  pub same : markeds b' ≡ markeds b
  pub kept : Kept b b'

-- What is marked at t was one set and is another, and what is new in it waits.
pub record Renewed (t old all : ℕ) (b b' : List ℕ) : Type 0 where
  pub long : length b' ≡ length b
  pub marked : word b' (marks_at + size * t) ≡ all
  pub waits : (r : ℕ) → bit (word b' (waits_at + size * t)) r ≡ max (bit (word b (waits_at + size * t)) r) (bit (bit_xor all old) r)
  pub others : (u : ℕ) → u < terms → u ≢ t → (word b' (marks_at + size * u) ≡ word b (marks_at + size * u)) × (word b' (waits_at + size * u) ≡ word b (waits_at + size * u))
  pub below : Below b b'

-- The questions of a set of records at t are marked now, and no other is; the same are served, and the threads are as they were.
pub record SetMarked (set t : ℕ) (b b' : List ℕ) : Type 0 where
  pub there : (r : ℕ) → r < records → view (markeds b') r t ≡ max (view (markeds b) r t) (bit set r)
  pub others : (r u : ℕ) → r < records → u < terms → u ≢ t → view (markeds b') r u ≡ view (markeds b) r u
  pub kept : Kept b b'

-- the question of record r at t is served if it waited, and no other
pub record OneServed (r t : ℕ) (b b' : List ℕ) : Type 0 where
  pub waited : Waits b (place r t) → serveds b' ≡ set (serveds b) (place r t) 1
  pub left : (Waits b (place r t) → ⊥) → serveds b' ≡ serveds b

-- whether the question of record r at t waited; it does no longer, and is served
pub record TakenUp (r t : ℕ) (b b' : List ℕ) (took : Bool) : Type 0 where
  pub long : length b' ≡ length b
  pub same : markeds b' ≡ markeds b
  pub below : Below b b'
  pub served : OneServed r t b b'
  pub waited : took ≡ true → Waits b (place r t)
  pub left : took ≡ false → b' ≡ b

-- so many turns the queue may give in all
abbrev pub most : ℕ
most = 4 * records * terms

-- the question that is next, of the first n records: at the term at the head of the queue, or one that waits, if one does
abbrev pub Picked : (n head tail : ℕ) → List ℕ → Option (ℕ × ℕ) → Type 0
Picked n head tail b None = NoneWaits b (n * terms)
Picked n head tail b (Some (r, t)) = (r < n) × (t < terms) × (((head < most) × (head < tail)) ⊎ Waits b (place r t))
