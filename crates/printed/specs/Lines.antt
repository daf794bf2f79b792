-- The lines that the query program prints, as bytes (document 01, "The query program").
-- Numbers are decimal; each is followed by a space, and the last of a line by its end.
use Rattle.std.specs.Prelude.{ℕ, zero, suc, ◌+◌, ◌/◌, ◌%◌, Bool, cond, List, [], ◌∷◌, ◌++◌, ltb, eqb, get_or, drop, Result, Ok, Err}
use Rattle.meaning.specs.Limits.{none}
use Rattle.meaning.specs.Path.{Path}
use Rattle.records.specs.declared.Refusal.{Refusal}
use Rattle.records.specs.Refusals.{number_of}
use Rattle.calls.specs.declared.Answer.{Answer}

-- what stands behind a number: a space, or the end of the line
abbrev pub space : ℕ
space = 32

abbrev pub newline : ℕ
newline = 10

-- a digit as a byte
abbrev pub digit : ℕ → ℕ
digit d = 48 + d

-- the last digits of a number, at most so many, with no 0 in front
unfoldable pub last_digits : ℕ → ℕ → List ℕ
last_digits zero n = []
last_digits (suc k) n = cond (ltb n 10) (digit n ∷ []) (last_digits k (n / 10) ++ (digit (n % 10) ∷ []))

-- a number in decimal
unfoldable pub decimal : ℕ → List ℕ
decimal n = last_digits (suc n) n

-- a number, and what stands behind it
unfoldable pub field : ℕ → ℕ → List ℕ
field n mark = decimal n ++ (mark ∷ [])

-- `refused `
abbrev pub refused_word : List ℕ
refused_word = 114 ∷ 101 ∷ 102 ∷ 117 ∷ 115 ∷ 101 ∷ 100 ∷ 32 ∷ []

-- `yes `, `no `
abbrev pub answer_word : Bool → List ℕ
answer_word related = cond related (121 ∷ 101 ∷ 115 ∷ 32 ∷ []) (110 ∷ 111 ∷ 32 ∷ [])

-- `- `, for self
abbrev pub self_word : List ℕ
self_word = 45 ∷ 32 ∷ []

-- `refused`, number, place
unfoldable pub refused_line : Refusal → List ℕ
refused_line x = refused_word ++ (field (number_of x.reason) space ++ field x.place newline)

-- answer, figure, ceiling, steps
unfoldable pub answer_line : Bool → (figure ceiling steps : ℕ) → List ℕ
answer_line related figure ceiling steps =
    answer_word related ++ (field figure space ++ (field ceiling space ++ field steps newline))

-- record, triple (`-` for self), term reached
unfoldable pub triple_field : ℕ → List ℕ
triple_field k = cond (eqb k none) self_word (field k space)

unfoldable pub step_line : (r k u : ℕ) → List ℕ
step_line r k u = field r space ++ (triple_field k ++ field u newline)

-- a line for each step
unfoldable pub path_lines : Path → List ℕ
path_lines [] = []
path_lines (x ∷ p) = step_line x.by x.over x.to ++ path_lines p

-- the same for the first n steps that numbers hold, three each
unfoldable pub step_lines : ℕ → List ℕ → List ℕ
step_lines zero l = []
step_lines (suc n) l = step_line (get_or l 0 0) (get_or l 1 0) (get_or l 2 0) ++ step_lines n (drop 3 l)

-- a line of numbers is no longer than this, nor a step's line than that
unfoldable pub line_most : ℕ
line_most = 67

unfoldable pub step_most : ℕ
step_most = 18

-- an answer and its ceiling, and the steps that a room holds
abbrev pub answer_text : Answer → ℕ → List ℕ → List ℕ
answer_text x most room = answer_line x.yes x.figure most x.steps ++ step_lines x.steps room

-- the text of an answer with its ceiling, where the room holds the steps, and of a refusal
abbrev pub text_for : Result (Answer × ℕ) Refusal → List ℕ → List ℕ
text_for (Ok (x, most)) room = answer_text x most room
text_for (Err x) room = refused_line x
