-- The bits of a number that is made of bytes: bit r of it is a bit of its byte r / 8.
-- So a record's mark is found in a row that has one byte of each word.
use Prim.Native.Nat.{ℕ, zero, suc, ◌+◌, ◌*◌, ◌-◌, ◌/◌, ◌%◌, ◌^◌, ◌<◌}
use mathlib.Core.Path.{◌≡◌, sym, ap, ◌∙◌}
use mathlib.Core.List.{List}
use native.Mathlib.Decide.{dec_lt}
use native.Mathlib.Nat.{div-one}
use native.Mathlib.Numerals.{one-add}
use native.Mathlib.Omega.{arith}
use lib.Bits.{block_half, block_odd}
use lib.ListN.{get_or}
use lib.Pow.{high, shr-shr}
use Rattle.records.specs.Bytes.{base}
use Rattle.asked.specs.Words.{eight, size, bit, holding, word}

-- a bit of a number is a bit of its half
bit_half : (n k : ℕ) → bit n (suc k) ≡ bit (n / 2) k
bit_half n k = rw (← one-add k) (ap (λ x. x % 2) (sym (shr-shr n 1 k)))

-- Below 2 ^ n only what stands there has a bit.
bit_low : (k n h l : ℕ) → k < n → bit (h * 2 ^ n + l) k ≡ bit l k
bit_low k zero h l below = absurd (omega arith)
bit_low zero (suc n) h l below = simp div-one (block_odd h n l)
bit_low (suc k) (suc n) h l below =
    bit_half (h * 2 ^ suc n + l) k ∙ ap (λ x. bit x k) (block_half h n l) ∙ bit_low k n h (l / 2) (omega arith) ∙ sym (bit_half l k)

-- From there on what stands above has.
bit_high : (n k h l : ℕ) → l < 2 ^ n → bit (h * 2 ^ n + l) (n + k) ≡ bit h k
bit_high n k h l small = ap (λ x. x % 2) (sym (shr-shr (h * 2 ^ n + l) n k) ∙ ap (λ x. x / 2 ^ k) (high h n small))

-- Bit r of a number made of bytes is a bit of its byte r / 8.
module _ (b : List ℕ) (small : (i : ℕ) → get_or b i 0 < base) where
  bit_holding : (n at r : ℕ) → r < eight * n → bit (holding n b at) r ≡ bit (get_or b (at + r / eight) 0) (r % eight)
  bit_holding zero at r h = absurd (omega arith)
  bit_holding (suc n) at r h = elim (dec_lt r eight) [
    | yes k ↦
        let byte : at ≡ at + r / eight = omega arith in
        let own : r ≡ r % eight = omega arith in
        bit_low r eight (holding n b (suc at)) (get_or b at 0) k ∙ ap (λ i. bit (get_or b i 0) r) byte ∙ ap (λ x. bit (get_or b (at + r / eight) 0) x) own
    | no k ↦
        let on : r ≡ eight + (r - eight) = omega arith in
        let byte : suc at + (r - eight) / eight ≡ at + r / eight = omega arith in
        let own : (r - eight) % eight ≡ r % eight = omega arith in
        ap (λ x. bit (holding (suc n) b at) x) on ∙ bit_high eight (r - eight) (holding n b (suc at)) (get_or b at 0) (small at)
        ∙ bit_holding n (suc at) (r - eight) (omega arith) ∙ ap (λ i. bit (get_or b i 0) ((r - eight) % eight)) byte ∙ ap (λ x. bit (get_or b (at + r / eight) 0) x) own
  ]

  pub bit_word : (at r : ℕ) → r < eight * size → bit (word b at) r ≡ bit (get_or b (at + r / eight) 0) (r % eight)
  unfolding word
  bit_word at r h = bit_holding size at r h
