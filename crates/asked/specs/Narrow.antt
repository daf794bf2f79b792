-- The marks at the end: words become rows, by way of rows that have one byte of each word.
-- What is written stands in one piece and nothing else is changed: that is said once of entries, and once of rows.
use Rattle.std.specs.Prelude.{ℕ, ◌+◌, ◌*◌, ◌/◌, ◌%◌, ◌≤◌, ◌<◌, ◌≡◌, List, length, get_or}
use Rattle.meaning.specs.Limits.{terms, records}
use Rattle.fewest.specs.Offer.{view}
use Rattle.asked.specs.Words.{eight, size, bit, marks_at, waits_at}
use Rattle.asked.specs.Serve.{markeds}

-- no question of the records from number n on is marked
abbrev pub Unmarked : ℕ → List ℕ → Type 0
Unmarked n b = (r t : ℕ) → n ≤ r → r < records → t < terms → view (markeds b) r t ≡ 0

-- n entries from this place on were written, each by its number, and nothing else was changed
pub record Written (at n : ℕ) (f : ℕ → ℕ) (b b' : List ℕ) : Type 0 where
  pub long : length b' ≡ length b
  pub there : (i : ℕ) → i < n → get_or b' (at + i) 0 ≡ f i
  pub below : (i : ℕ) → i < at → get_or b' i 0 ≡ get_or b i 0
  pub above : (i : ℕ) → at + n ≤ i → get_or b' i 0 ≡ get_or b i 0

-- n rows were, each entry by its row and its place in the row
pub record RowsWritten (at n : ℕ) (f : ℕ → ℕ → ℕ) (b b' : List ℕ) : Type 0 where
  pub long : length b' ≡ length b
  pub there : (r t : ℕ) → r < n → t < terms → get_or b' (at + r * terms + t) 0 ≡ f r t
  pub below : (i : ℕ) → i < at → get_or b' i 0 ≡ get_or b i 0
  pub above : (i : ℕ) → at + n * terms ≤ i → get_or b' i 0 ≡ get_or b i 0

-- byte p of the word of marks of term t
abbrev pub byte : List ℕ → (p t : ℕ) → ℕ
byte b p t = get_or b (marks_at + size * t + p) 0

-- these bytes stand in a row
abbrev pub LaidOut : ℕ → List ℕ → List ℕ → Type 0
LaidOut p b b' = Written (waits_at + p * terms) terms (byte b p) b b'

-- the bytes in which the first n records have their bits do
pub record LaidOutTo (n : ℕ) (b b' : List ℕ) : Type 0 where
  pub long : length b' ≡ length b
  pub rows : (r t : ℕ) → r < n → t < terms → get_or b' (waits_at + r / eight * terms + t) 0 ≡ byte b (r / eight) t

-- the bit of record r at t, of the row that holds it
abbrev pub held : List ℕ → (r t : ℕ) → ℕ
held b r t = bit (get_or b (waits_at + r / eight * terms + t) 0) (r % eight)

-- the row of record r has its bits
abbrev pub RowOut : ℕ → List ℕ → List ℕ → Type 0
RowOut r b b' = Written (r * terms) terms (held b r) b b'

-- the rows of the first n records have theirs
abbrev pub RowsOut : ℕ → List ℕ → List ℕ → Type 0
RowsOut n b b' = RowsWritten 0 n (held b) b b'

-- n rows from that of record r on are 0
abbrev pub Cleared : (r n : ℕ) → List ℕ → List ℕ → Type 0
Cleared r n b b' = RowsWritten (r * terms) n (λ _ _. 0) b b'
