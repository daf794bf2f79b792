-- Entries are written one after another, and so are rows: none, one more, all of them. Once all rows are written, they are the marks.
use Prim.Native.Nat.{ℕ, ◌+◌, ◌*◌, ◌-◌, ◌%◌, ◌<◌, ◌≤◌}
use mathlib.Core.Path.{◌≡◌, sym, ap, ◌∙◌}
use mathlib.Core.Logic.{◌≢◌}
use mathlib.Core.List.{List}
use native.Mathlib.Decide.{ℕ_discrete, dec_lt}
use native.Mathlib.Omega.{arith}
use lib.Arith.{digits_lt}
use lib.ListN.{length, get_or, set, length-set}
use lib.Seq.{get_or-set_same, get_or-set_other}
use Rattle.meaning.specs.Limits.{terms, records}
use Rattle.records.specs.Bytes.{base}
use Rattle.fewest.specs.Offer.{place, view}
use Rattle.asked.specs.Words.{eight, size, bit, marks_at}
use Rattle.asked.specs.Serve.{markeds}
use Rattle.asked.specs.Narrow.{Unmarked, Written, RowsWritten, LaidOutTo, RowsOut, Cleared}
use Rattle.asked.proofs.WordBits.{same_views, length-questions, view_questions}
use Rattle.asked.proofs.ByteBits.{bit_word}

module _ {at n : ℕ} {f : ℕ → ℕ} {b : List ℕ} where
  -- what is written is all
  pub all_written : {m : ℕ} {b' : List ℕ} → Written at n f b b' → n ≡ m → Written at m f b b'
  all_written w all = rw (← all) w

  -- One entry more is stored, at the end of those that are written.
  pub one_written : {b' : List ℕ} {v : ℕ} → Written at n f b b' → at + n < length b → v ≡ f n → Written at (n + 1) f b (set b' (at + n) v)
  one_written {b'} {v} w inside value = record {
    long = length-set b' (at + n) v ∙ w.long;
    there = λ i h. elim (ℕ_discrete i n) [
      | yes e ↦ rw e (get_or-set_same b' (at + n) v 0 (omega (arith, w.long)) ∙ value)
      | no e ↦ other (at + i) (omega arith) ∙ w.there i (omega arith)
    ];
    below = λ i h. other i (omega arith) ∙ w.below i h;
    above = λ i h. other i (omega arith) ∙ w.above i (omega arith);
  }
    where
      other : (i : ℕ) → i ≢ at + n → get_or (set b' (at + n) v) i 0 ≡ get_or b' i 0
      other i apart = get_or-set_other b' (at + n) i v 0 apart

-- the same of rows
module _ {at n : ℕ} {f : ℕ → ℕ → ℕ} {b : List ℕ} where
  -- One row more is written, behind those that are.
  pub row_written : {from m : ℕ} {g : ℕ → ℕ} {b' b'' : List ℕ} → RowsWritten at n f b b' → Written from terms g b' b'' →
      from ≡ at + n * terms → m ≡ n + 1 → ((t : ℕ) → t < terms → g t ≡ f n t) → RowsWritten at m f b b''
  unfolding terms
  row_written w row behind more value = record {
    long = row.long ∙ w.long;
    there = λ r t h k. elim (dec_lt r n) [
      | yes z ↦ row.below (at + r * terms + t) (omega arith) ∙ w.there r t z k
      | no z ↦
          let last : r ≡ n = omega arith in
          rw (last, ← behind) (row.there t k ∙ value t k)
    ];
    below = λ i h. row.below i (omega arith) ∙ w.below i h;
    above = λ i h. row.above i (omega arith) ∙ w.above i (omega arith);
  }

-- The rows of the first records are their marks, and so are those of the others, which have none.
module _ {n : ℕ} {b laid out b' : List ℕ} (unmarked : Unmarked n b) (small : (i : ℕ) → get_or b i 0 < base)
    (l : LaidOutTo n b laid) (o : RowsOut n laid out) (c : Cleared n (records - n) out b') where
  of_first : (r t : ℕ) → r < records → r < n → t < terms → view b' r t ≡ view (markeds b) r t
  unfolding view records
  of_first r t h z k =
      let front : place r t ≡ 0 + r * terms + t = omega arith in
      c.below (place r t) (digits_lt z k) ∙ ap (λ i. get_or out i 0) front ∙ o.there r t z k
      ∙ ap (λ x. bit x (r % eight)) (l.rows r t z k) ∙ sym (view_questions marks_at b r t h k ∙ bit_word b small (marks_at + size * t) r (omega arith))

  of_other : (r t : ℕ) → r < records → n ≤ r → t < terms → view b' r t ≡ view (markeds b) r t
  unfolding view terms
  of_other r t h z k =
      let on : place r t ≡ n * terms + (r - n) * terms + t = omega arith in
      ap (λ i. get_or b' i 0) on ∙ c.there (r - n) t (omega arith) k ∙ sym (unmarked r t z h k)

  pub all_narrowed : length b ≡ records * terms → b' ≡ markeds b
  all_narrowed whole =
      same_views b' (markeds b) (c.long ∙ o.long ∙ l.long ∙ whole) (length-questions marks_at b)
      (λ r t h k. elim (dec_lt r n) [ yes z ↦ of_first r t h z k | no z ↦ of_other r t h (omega arith) k ])
