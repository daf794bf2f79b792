-- How long the parts of a line are at most, and so the line.
use Prim.Native.Nat.{ℕ, ◌+◌, ◌^◌, ◌<◌, ◌≤◌}
use mathlib.Core.Path.{◌≡◌}
use mathlib.Core.Bool.{Bool, true, false}
use mathlib.Core.List.{[], ◌∷◌}
use native.Mathlib.Omega.{arith}
use lib.ListN.{length, length-append}
use Rattle.printed.specs.Lines.{decimal, field, space, newline, answer_word, triple_field, answer_line, step_line, line_most, step_most}
use Rattle.printed.proofs.Digits.{decimal_few}
use Rattle.printed.proofs.Putting.{put_then}

pub field_long : (n mark : ℕ) → length (field n mark) ≡ length (decimal n) + 1
unfolding field
field_long n mark = length-append (decimal n) (mark ∷ [])

-- a number of 64 bits, and one of 16
pub field_most : (n mark : ℕ) → n < 2 ^ 64 → length (field n mark) ≤ 21
field_most n mark h = omega (arith, field_long n mark, decimal_few 19 n (omega arith))

pub field_few : (n mark : ℕ) → n < 2 ^ 16 → length (field n mark) ≤ 6
field_few n mark h = omega (arith, field_long n mark, decimal_few 4 n (omega arith))

-- the word of an answer
pub word_few : (related : Bool) → length (answer_word related) ≤ 4
word_few true = omega arith
word_few false = omega arith

-- the triple of a step: self has none
pub triple_few : (k : ℕ) → k < 2 ^ 16 → length (triple_field k) ≤ 6
unfolding triple_field
triple_few k h = grind (arith, field_few k space h)

-- the whole line of a step
pub step_few : (r k u : ℕ) → r < 2 ^ 16 → k < 2 ^ 16 → u < 2 ^ 16 → length (step_line r k u) ≤ step_most
unfolding step_line step_most
step_few r k u hr hk hu =
    rw (length-append, length-append) (omega (arith, field_few r space hr, triple_few k hk, field_few u newline hu))

-- the whole line of an answer
pub answer_most : (related : Bool) (c l k : ℕ) → c < 2 ^ 64 → l < 2 ^ 64 → k < 2 ^ 64 → length (answer_line related c l k) ≤ line_most
unfolding answer_line line_most
answer_most related c l k hc hl hk =
    rw (length-append, length-append, length-append)
    (omega (arith, word_few related, field_most c space hc, field_most l space hl, field_most k newline hk))

-- what shows that a line of numbers is put, and that of a step
pub ruleset in_a_line = (put_then, word_few, field_most, answer_most)

pub ruleset in_a_step = (put_then, field_few, triple_few, step_few)
