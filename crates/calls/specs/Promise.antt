-- What each call promises: its answer or refusal, and what each lent table and the room hold after it, for all inputs.
-- One promise serves both forms of a call: numbers lent as such, or as pairs of bytes.
use Rattle.std.specs.Prelude.{ℕ, ◌+◌, ◌*◌, ◌/◌, ◌%◌, ◌<◌, ◌≤◌, ◌≡◌, true, false, List, [], ◌∷◌, ◌++◌, length, drop, replicate, Result, Ok, Err}
use Rattle.meaning.specs.Limits.{terms, records, none}
use Rattle.meaning.specs.Site.{Site, Mentioned}
use Rattle.meaning.specs.Expression.{Expr, size}
use Rattle.meaning.specs.Relation.{Rel}
use Rattle.meaning.specs.Path.{Path, Conforms}
use Rattle.meaning.specs.Shown.{Shown}
use Rattle.meaning.specs.Fewest.{Goal, end, anywhere, Fewest}
use Rattle.meaning.specs.Question.{Figure, Count, Ends, Starts}
use Rattle.records.specs.declared.Refusal.{Refusal}
use Rattle.records.specs.declared.Reason.TheVariants.{Room}
use Rattle.records.specs.Sites.{site_of}
use Rattle.records.specs.Rules.{refusal}
use Rattle.records.specs.Bytes.{base}
use Rattle.fewest.specs.Pairs.{pairs}
use Rattle.calls.specs.declared.Answer.{Answer}
use Rattle.calls.specs.declared.Found.{Found}
use Rattle.calls.specs.Admission.{starting, ending, Refuses, Admits}
use Rattle.calls.specs.Tables.{QuestionTable, NumberTable, TermTable, written}

-- how a table of numbers and a room are lent: as numbers, or as two bytes a number, high byte first
pub data Form : Type 0 where
  as_words as_bytes : Form

-- the numbers that a lent table holds
abbrev pub numbers_of : Form → List ℕ → List ℕ
numbers_of as_words l = l
numbers_of as_bytes l = pairs l

-- numbers, two bytes each
unfoldable pub spread : List ℕ → List ℕ
spread [] = []
spread (x ∷ xs) = x / base ∷ (x % base ∷ spread xs)

-- numbers as they are lent
abbrev pub lent : Form → List ℕ → List ℕ
lent as_words l = l
lent as_bytes l = spread l

-- how many entries, or bytes, a table of n numbers has
abbrev pub length_in : Form → ℕ → ℕ
length_in as_words n = n
length_in as_bytes n = n + n

-- a room of bytes is one of 1,024 steps; one of numbers has any length
unfoldable pub room_steps : ℕ
room_steps = 1024

abbrev pub RoomFits : Form → List ℕ → Type 0
RoomFits as_words room = Unit
RoomFits as_bytes room = length room ≡ 3 * room_steps + 3 * room_steps

-- the two tables have their lengths
pub record Fits (f : Form) (asked numbers : List ℕ) : Type 0 where
  pub asked_fits : length asked ≡ records * terms
  pub numbers_fit : length numbers ≡ length_in f (records * terms)

-- the two tables are filled as for an answer: the questions from z, and the fewest steps to the goal
pub record Filled (f : Form) (s : Site) (e : Expr) (z : ℕ) (g : Goal) (asked numbers : List ℕ) : Type 0 where
  pub questions : QuestionTable s e z asked
  pub long : length numbers ≡ length_in f (records * terms)
  pub fewest : NumberTable s g e (numbers_of f numbers)

-- Deciding start → end. The tables and the room are given before and after.
pub data Decided (f : Form) (s r : List ℕ) (z v : ℕ) (asked numbers room asked' numbers' room' : List ℕ) : Result Answer Refusal → Type 0 where
  refused : {x : Refusal} → Refuses (Fits f asked numbers × RoomFits f room) s r (starting z ∷ (ending v ∷ [])) x →
      asked' ≡ asked → numbers' ≡ numbers → room' ≡ room →
      Decided f s r z v asked numbers room asked' numbers' room' (Err x)
  no : {n c : ℕ} {e : Expr} → Admits (Fits f asked numbers × RoomFits f room) s r (starting z ∷ (ending v ∷ [])) n e →
      Filled f (site_of s n) e z (end v) asked' numbers' → Figure (site_of s n) e z c →
      (Rel (site_of s n) e z v → ⊥) → room' ≡ room →
      Decided f s r z v asked numbers room asked' numbers' room' (Ok (record { yes = false; figure = c; steps = 0 }))
  yes : {n c : ℕ} {e : Expr} {p : Path} → Admits (Fits f asked numbers × RoomFits f room) s r (starting z ∷ (ending v ∷ [])) n e →
      Filled f (site_of s n) e z (end v) asked' numbers' → Figure (site_of s n) e z c →
      Shown (λ q. Conforms (site_of s n) e z q v) p → length (lent f (written p)) ≤ length room →
      room' ≡ lent f (written p) ++ drop (length (lent f (written p))) room →
      Decided f s r z v asked numbers room asked' numbers' room' (Ok (record { yes = true; figure = c; steps = length p }))
  no_room : {n k : ℕ} {e : Expr} → Admits (Fits f asked numbers × RoomFits f room) s r (starting z ∷ (ending v ∷ [])) n e →
      Filled f (site_of s n) e z (end v) asked' numbers' →
      Fewest (λ q. Conforms (site_of s n) e z q v) k → k < none → length room < length_in f (3 * k) → room' ≡ room →
      Decided f s r z v asked numbers room asked' numbers' room' (Err (refusal Room k))

-- Listing the ends of a start: the rule's own body may finish anywhere.
pub data Ended (f : Form) (s r : List ℕ) (z : ℕ) (asked numbers third asked' numbers' third' : List ℕ) : Result Found Refusal → Type 0 where
  refused : {x : Refusal} → Refuses (Fits f asked numbers × (length third ≡ terms)) s r (starting z ∷ []) x →
      asked' ≡ asked → numbers' ≡ numbers → third' ≡ third →
      Ended f s r z asked numbers third asked' numbers' third' (Err x)
  found : {n c k : ℕ} {e : Expr} → Admits (Fits f asked numbers × (length third ≡ terms)) s r (starting z ∷ []) n e →
      Filled f (site_of s n) e z anywhere asked' numbers' →
      TermTable (Ends (site_of s n) e z) third' → Count (Ends (site_of s n) e z) k → Figure (site_of s n) e z c →
      Ended f s r z asked numbers third asked' numbers' third' (Ok (record { ends = k; figure = c }))

-- Listing the starts of an end: no question is asked, and the byte table becomes all 0.
pub data Started (f : Form) (s r : List ℕ) (v : ℕ) (asked numbers third asked' numbers' third' : List ℕ) : Result ℕ Refusal → Type 0 where
  refused : {x : Refusal} → Refuses (Fits f asked numbers × (length third ≡ terms)) s r (ending v ∷ []) x →
      asked' ≡ asked → numbers' ≡ numbers → third' ≡ third →
      Started f s r v asked numbers third asked' numbers' third' (Err x)
  found : {n k : ℕ} {e : Expr} → Admits (Fits f asked numbers × (length third ≡ terms)) s r (ending v ∷ []) n e →
      asked' ≡ replicate (records * terms) 0 →
      length numbers' ≡ length_in f (records * terms) → NumberTable (site_of s n) (end v) e (numbers_of f numbers') →
      TermTable (Starts (site_of s n) e v) third' → Count (λ t. (t < terms) × Starts (site_of s n) e v t) k →
      Started f s r v asked numbers third asked' numbers' third' (Ok k)

-- The ceiling of a site and a rule: records times one more than the different terms of the site.
pub data Limited (s r : List ℕ) : Result ℕ Refusal → Type 0 where
  refused : {x : Refusal} → Refuses Unit s r [] x → Limited s r (Err x)
  at : {n d : ℕ} {e : Expr} → Admits Unit s r [] n e → Count (Mentioned (site_of s n)) d → Limited s r (Ok (size e * (d + 1)))
