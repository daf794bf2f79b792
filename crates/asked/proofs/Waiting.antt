-- Whether a question waits, as it is read off the table: by the bytes of the words of what waits, and by one question's bits.
-- What waits is marked too; but where no byte is above 0 nothing waits, marked or not.
use Prim.Native.Nat.{ℕ, ◌+◌, ◌*◌, ◌/◌, ◌%◌, ◌^◌, ◌<◌, ◌≤◌}
use mathlib.Core.Path.{◌≡◌}
use mathlib.Core.Bool.{not}
use mathlib.Core.List.{List}
use native.Mathlib.Omega.{arith}
use native.Mathlib.Decide.{ℕ_discrete}
use lib.Bits.{bit_and}
use lib.Dec.{eqb}
use lib.ListN.{get_or}
use borrow.Author.Tests.{eq-eqb, ne_eqb}
use Rattle.meaning.specs.Limits.{terms, records}
use Rattle.fewest.specs.Offer.{place}
use Rattle.fewest.specs.Tells.{Tells, holds, fails}
use Rattle.asked.specs.Words.{size, waits_at}
use Rattle.asked.specs.Serve.{Waits, NoneWaits}
use Rattle.asked.proofs.WordBits.{bit_of_and, bit_none, has_one, has_none, place_split, no_word}
use Rattle.asked.proofs.Serving.{mark_of, wait_of, waits_by, waits_bits}

-- Where no byte of the words is above 0, each is the empty set, and nothing waits.
module _ (b : List ℕ) (none : (j : ℕ) → waits_at ≤ j → j < waits_at + size * terms → get_or b j 0 ≤ 0) where
  wait_none : (t : ℕ) → t < terms → wait_of b t ≡ 0
  wait_none t h = no_word b (waits_at + size * t) (λ i from to. omega (arith, none i (omega arith) (omega arith)))

  pub none_waits : NoneWaits b (records * terms)
  unfolding terms
  none_waits i h w =
      let (m, k) = waits_bits b (i / terms) (i % terms) (omega arith) (omega arith) (rw (place_split i) w) in
      let e = rw (wait_none (i % terms) (omega arith)) at k in
      omega (arith, bit_none (i / terms))

-- What is in both words of a term and in the set of one record tells of its question.
pub waits_told : (b : List ℕ) {r t : ℕ} → r < records → t < terms →
    Tells (Waits b (place r t)) (not (eqb (bit_and (bit_and (mark_of b t) (wait_of b t)) (2 ^ r)) 0))
waits_told b {r} {t} row h =
    let both = bit_of_and (mark_of b t) (wait_of b t) r in
    elim (ℕ_discrete (bit_and (bit_and (mark_of b t) (wait_of b t)) (2 ^ r)) 0) [
      | yes e ↦ rw (eq-eqb _ _ e) (fails (λ w. let (m, k) = waits_bits b r t row h w in has_none (bit_and (mark_of b t) (wait_of b t)) r e (omega arith)))
      | no e ↦ let one = has_one (bit_and (mark_of b t) (wait_of b t)) r e in rw (ne_eqb _ _ e) (holds (waits_by b r t row h (omega arith) (omega arith)))
    ]
