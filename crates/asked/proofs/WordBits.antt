-- The bits of words: of a set with one record more or less, of a number made of bytes; and the questions that words hold, which are
-- told by record and term.
use Prim.Native.Nat.{ℕ, zero, suc, ◌+◌, ◌*◌, ◌-◌, ◌/◌, ◌%◌, ◌^◌, ◌<◌, ◌≤◌, min, max}
use mathlib.Core.Path.{◌≡◌, refl, sym, ap, ◌∙◌}
use mathlib.Core.Logic.{◌≢◌, ◌⊎◌, inl, inr, ⊎_elim}
use mathlib.Core.List.{List, [], ◌∷◌}
use native.Mathlib.Nat.{zero-div, div-eq_of_lt, pow-suc}
use native.Mathlib.Omega.{arith}
use native.Mathlib.Decide.{dec_lt, ℕ_discrete}
use lib.Arith.{digits_div, digits_mod}
use lib.Bits.{bit_and, bit_or, bit_xor, differ, and_high, and_shr, and_step, or_lt, or_shr, or_step, xor_shr, xor_step}
use lib.ListN.{length, get_or, get_or-eq_default}
use lib.Pow.{pow-add, pow-lt, pow_pos, shl-shr}
use lib.Seq.{ext_get_or}
use Rattle.meaning.specs.Limits.{terms, records}
use Rattle.records.specs.Bytes.{base}
use Rattle.fewest.specs.Offer.{place, view}
use Rattle.fewest.proofs.Places.{place_below}
use Rattle.asked.specs.Words.{eight, size, sets, bit, word, WordPut, listed, questions}
use Rattle.asked.specs.Narrow.{Written}
use Rattle.asked.specs.Seek.{Bits}

-- The bits of what is joined, met or told apart.
module _ (a b r : ℕ) where
  pub bit_of_or : bit (bit_or a b) r ≡ max (bit a r) (bit b r)
  bit_of_or = rw (or_shr a b r, or_step (a / 2 ^ r) (b / 2 ^ r)) (omega arith)

  pub bit_of_and : bit (bit_and a b) r ≡ min (bit a r) (bit b r)
  bit_of_and = rw (and_shr a b r, and_step (a / 2 ^ r) (b / 2 ^ r)) (omega arith)

  pub bit_of_xor : bit (bit_xor a b) r + min (bit a r) (bit b r) * 2 ≡ bit a r + bit b r
  bit_of_xor = rw (xor_shr a b r, xor_step (a / 2 ^ r) (b / 2 ^ r)) (omega (arith, differs (bit a r) (bit b r) (omega arith) (omega arith)))
    where
      differs : (x y : ℕ) → x < 2 → y < 2 → differ x y + min x y * 2 ≡ x + y
      differs zero zero h k = refl
      differs zero (suc zero) h k = refl
      differs (suc zero) zero h k = refl
      differs (suc zero) (suc zero) h k = refl
      differs zero (suc (suc y)) h k = absurd (omega arith)
      differs (suc zero) (suc (suc y)) h k = absurd (omega arith)
      differs (suc (suc x)) y h k = absurd (omega arith)

-- The empty set, and the set of one record.
pub bit_none : (r : ℕ) → bit 0 r ≡ 0
bit_none r = rw (zero-div (2 ^ r))

pub bit_own : (r : ℕ) → bit (2 ^ r) r ≡ 1
bit_own r = let e : 2 ^ r ≡ 1 * 2 ^ r = omega arith in ap (λ x. x / 2 ^ r % 2) e ∙ ap (λ x. x % 2) (shl-shr 1 r)

pub bit_other : (r q : ℕ) → q ≢ r → bit (2 ^ r) q ≡ 0
bit_other r q apart = elim (dec_lt r q) [
  | yes h ↦ ap (λ x. x % 2) (div-eq_of_lt (pow-lt h))
  | no h ↦
      let e : r ≡ suc (r - q - 1) + q = omega arith in
      ap (λ x. bit (2 ^ x) q) e ∙ ap (λ x. x / 2 ^ q % 2) (pow-add 2 (suc (r - q - 1)) q) ∙ ap (λ x. x % 2) (shl-shr (2 ^ suc (r - q - 1)) q) ∙ (rw (pow-suc 2 (r - q - 1)) (omega arith))
]

-- A set meets that of one record where it has the record.
pub and_only : (a r : ℕ) → bit_and a (2 ^ r) ≡ bit a r * 2 ^ r
and_only a r = let e : 2 ^ r ≡ 2 ^ (1 + r) - 2 ^ r = rw (pow-add 2 1 r) (omega arith) in ap (bit_and a) e ∙ and_high a 1 r

pub has_one : (a r : ℕ) → bit_and a (2 ^ r) ≢ 0 → bit a r ≡ 1
has_one a r e = elim (ℕ_discrete (bit a r) 0) [ yes z ↦ absurd (e (and_only a r ∙ (rw z (omega arith)))) | no z ↦ omega arith ]

pub has_none : (a r : ℕ) → bit_and a (2 ^ r) ≡ 0 → bit a r ≢ 1
has_none a r e one = let p = pow_pos r in let q : bit a r * 2 ^ r ≡ 0 = sym (and_only a r) ∙ e in let z : 1 * 2 ^ r ≡ 0 = rw one at q in absurd (omega arith)

-- a list of values
pub length-listed : (f : ℕ → ℕ) (n : ℕ) → length (listed f n) ≡ n
length-listed f zero = refl
length-listed f (suc n) = ap suc (length-listed (λ i. f (suc i)) n)

pub get_or-listed : (f : ℕ → ℕ) (n i : ℕ) → i < n → get_or (listed f n) i 0 ≡ f i
get_or-listed f zero i h = absurd (omega arith)
get_or-listed f (suc n) zero h = refl
get_or-listed f (suc n) (suc i) h = get_or-listed (λ i. f (suc i)) n i (omega arith)

-- a question's place, by its record and its term
pub place_split : (i : ℕ) → place (i / terms) (i % terms) ≡ i
unfolding terms
place_split i = omega arith

-- a list of so many entries has the values that it has at each record and term
pub same_views : (l m : List ℕ) → length l ≡ records * terms → length m ≡ records * terms →
    ((r t : ℕ) → r < records → t < terms → view l r t ≡ view m r t) → l ≡ m
unfolding view terms
same_views l m p q same = ext_get_or 0 l m (p ∙ sym q) λ i h.
    let e : get_or l (place (i / terms) (i % terms)) 0 ≡ get_or m (place (i / terms) (i % terms)) 0 = same (i / terms) (i % terms) (omega arith) (omega arith) in
    rw (place_split i) at e

module _ (at : ℕ) (b : List ℕ) where
  pub length-questions : length (questions at b) ≡ records * terms
  unfolding questions
  length-questions = length-listed _ (records * terms)

  pub view_questions : (r t : ℕ) → r < records → t < terms → view (questions at b) r t ≡ bit (word b (at + size * t)) r
  unfolding questions view
  view_questions r t h k =
      rw (get_or-listed (λ i. bit (word b (at + size * (i % terms))) (i / terms)) (records * terms) (place r t) (place_below h k), digits_div r k, digits_mod r k)

-- A word, byte by byte.
pub word_four : (b : List ℕ) (at : ℕ) →
    word b at ≡ ((get_or b (at + 3) 0 * base + get_or b (at + 2) 0) * base + get_or b (at + 1) 0) * base + get_or b at 0
unfolding word
word_four b at =
    let one : suc at ≡ at + 1 = omega arith in
    let two : suc (suc at) ≡ at + 2 = omega arith in
    let three : suc (suc (suc at)) ≡ at + 3 = omega arith in
    omega (arith, ap (λ i. get_or b i 0) one, ap (λ i. get_or b i 0) two, ap (λ i. get_or b i 0) three)

-- A word is told by its bytes.
pub same_word : (b d : List ℕ) (at : ℕ) → ((k : ℕ) → k < size → get_or d (at + k) 0 ≡ get_or b (at + k) 0) → word d at ≡ word b at
same_word b d at same =
    let zero_at : at + 0 ≡ at = omega arith in
    let first : get_or d at 0 ≡ get_or b at 0 = rw zero_at at (same 0 (omega arith)) in
    omega (arith, word_four b at, word_four d at, first, same 1 (omega arith), same 2 (omega arith), same 3 (omega arith))

-- Where its bytes are 0, it is the empty set.
pub no_word : (b : List ℕ) (at : ℕ) → ((i : ℕ) → at ≤ i → i < at + size → get_or b i 0 ≡ 0) → word b at ≡ 0
no_word b at none =
    omega (arith, word_four b at, none at (omega arith) (omega arith), none (at + 1) (omega arith) (omega arith), none (at + 2) (omega arith) (omega arith), none (at + 3) (omega arith) (omega arith))

-- The words of two terms stand apart.
pub words_apart : (at : ℕ) {u t : ℕ} → u ≢ t → (at + size * u + size ≤ at + size * t) ⊎ (at + size * t + size ≤ at + size * u)
words_apart at {u} {t} apart = elim (dec_lt u t) [ yes l ↦ inl (omega arith) | no l ↦ inr (omega arith) ]

-- Another word is as it was.
pub word_others : {at set : ℕ} {b d : List ℕ} → WordPut at set b d → (i : ℕ) → (i + size ≤ at) ⊎ (at + size ≤ i) → word d i ≡ word b i
word_others {at} {b = b} {d} put i (inl h) = same_word b d i (λ k l. put.others (i + k) (inl (omega arith)))
word_others {at} {b = b} {d} put i (inr h) = same_word b d i (λ k l. put.others (i + k) (inr (omega arith)))

-- Sets joined or told apart are sets.
pub or_small : {a b : ℕ} → a < sets → b < sets → bit_or a b < sets
or_small {a} {b} h k = or_lt (eight * size) a b h k

-- Each question's entry is 0 or 1.
pub questions_bits : (at : ℕ) (b : List ℕ) → Bits (questions at b)
unfolding Bits questions
questions_bits at b i = elim (dec_lt i (records * terms)) [
  | yes h ↦ rw (get_or-listed (λ i. bit (word b (at + size * (i % terms))) (i / terms)) (records * terms) i h) (omega arith)
  | no h ↦ omega (arith, get_or-eq_default (questions at b) 0 {n = i} (omega (arith, length-questions at b)))
]

-- Its four bytes, lowest first, put a word.
pub put_done : {at w : ℕ} {b d bytes : List ℕ} → w < sets →
    bytes ≡ w % base ∷ (w / base % base ∷ (w / (base * base) % base ∷ (w / (base * base * base) % base ∷ []))) →
    Written at size (λ i. get_or bytes i 0) b d → WordPut at w b d
put_done {at} {w} {b} {d} small are put = record {
  long = put.long;
  stored =
      let here : at + 0 ≡ at = omega arith in
      let first = rw (here, are) at (put.there 0 (omega arith)) in
      let second = rw are at (put.there 1 (omega arith)) in
      let third = rw are at (put.there 2 (omega arith)) in
      let fourth = rw are at (put.there 3 (omega arith)) in
      word_four d at ∙ omega (arith, first, second, third, fourth);
  others = λ i apart. ⊎_elim (put.below i) (put.above i) apart;
}
