-- Sets of records as words in the lent byte table, and the questions that they hold: bit r of the word of term t is that of record r
-- at t. Bytes of a word stand lowest first.
use Rattle.std.specs.Prelude.{ℕ, zero, suc, ◌+◌, ◌*◌, ◌/◌, ◌%◌, ◌^◌, ◌≤◌, ◌<◌, ◌≡◌, ◌⊎◌, List, [], ◌∷◌, get_or, length}
use Rattle.meaning.specs.Limits.{terms, records}
use Rattle.records.specs.Bytes.{base}
use Rattle.fewest.specs.Threads.{free}

-- a byte has so many bits, a word so many bytes, and there are so many sets
abbrev pub eight : ℕ
eight = 8

abbrev pub size : ℕ
size = 4

abbrev pub sets : ℕ
sets = 2 ^ (eight * size)

-- 1 where record r is in the set
abbrev pub bit : ℕ → ℕ → ℕ
bit set r = set / 2 ^ r % 2

-- the number that n bytes from this place on hold
abbrev pub holding : (n : ℕ) → List ℕ → ℕ → ℕ
holding zero b at = 0
holding (suc n) b at = holding n b (suc at) * base + get_or b at 0

-- the set whose word begins there
unfoldable pub word : List ℕ → ℕ → ℕ
word b at = holding size b at

-- the word that begins there was stored, and nothing beside it
pub record WordPut (at set : ℕ) (b b' : List ℕ) : Type 0 where
  pub long : length b' ≡ length b
  pub stored : word b' at ≡ set
  pub others : (i : ℕ) → (i < at) ⊎ (at + size ≤ i) → get_or b' i 0 ≡ get_or b i 0

-- the first n values of a function, in a list
abbrev pub listed : (ℕ → ℕ) → ℕ → List ℕ
listed f zero = []
listed f (suc n) = f 0 ∷ listed (λ i. f (suc i)) n

-- where the words of marks stand, behind the threads and the queue, and where those of what waits
abbrev pub marks_at : ℕ
marks_at = free + free + (terms + terms)

abbrev pub waits_at : ℕ
waits_at = marks_at + size * terms

-- for each question its bit in the words from this place on, row by record and place by term
unfoldable pub questions : ℕ → List ℕ → List ℕ
questions at b = listed (λ i. bit (word b (at + size * (i % terms))) (i / terms)) (records * terms)
