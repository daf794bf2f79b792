-- Numbers copied from the front on: a row place by place, and a table row by row.
-- What is copied so far fills the front of what it is copied to; at the end that is all.
use Prim.Native.Nat.{ℕ, ◌+◌, ◌*◌, ◌-◌, ◌<◌, ◌≤◌}
use mathlib.Core.Path.{◌≡◌, refl, ap, ◌∙◌}
use mathlib.Core.List.{List, [], ◌∷◌, ◌++◌, append_assoc, append-nil}
use native.Mathlib.Nat.{zero-mul, suc-mul, mul-le-mul_right}
use native.Mathlib.Numerals.{add-one}
use native.Mathlib.Omega.{arith}
use lib.ListN.{length, get_or, take, drop, set, length-append, length-take, length-drop, drop_of_length-le}
use lib.Seq.{length-take-le, take_all, take-suc, take-add, take_at, drop_at, drop-drop, get_or-take, get_or-drop}
use borrow.Rule.Slice.PartMut.{put_mid}
use Rattle.meaning.specs.Limits.{terms, records}
use Rattle.fewest.specs.Pairs.{pairs}
use Rattle.fewest.specs.Offer.{view}
use Rattle.fewest.specs.Table.{Full}
use Rattle.calls.specs.Promise.{as_bytes}
use Rattle.calls.specs.Written.{front, row_of}
use Rattle.calls.proofs.Fronts.{front_long, front_more, numbers_long}

-- a full table has its numbers
pub full_long : (b : List ℕ) → Full b → length (pairs b) ≡ records * terms
unfolding Full
full_long b full = numbers_long as_bytes (records * terms) b full

-- a row lies in the table
row_inside : {r : ℕ} → r < records → r * terms + terms ≤ records * terms
row_inside {r} h = rw (← suc-mul r terms) (mul-le-mul_right terms h)

-- The first t places of row r of the numbers T are copied to the front of d, which is now e.
pub record RowCopied (T d : List ℕ) (r t : ℕ) (e : List ℕ) : Type 0 where
  pub full : length T ≡ records * terms
  pub row : r < records
  pub fits : terms ≤ length d
  pub copied : e ≡ front (take t (row_of T r)) d

pub row_none : (b d : List ℕ) {r : ℕ} → Full b → r < records → terms ≤ length d → RowCopied (pairs b) d r 0 d
row_none b d full row fits = record { full = full_long b full; row = row; fits = fits; copied = refl }

module _ {T d : List ℕ} {r t : ℕ} {e : List ℕ} (w : RowCopied T d r t e) where
  row_long : length (row_of T r) ≡ terms
  row_long = length-take-le terms (drop (r * terms) T) (rw length-drop (omega (arith, row_inside w.row, w.full)))

  pub row_same : length e ≡ length d
  row_same = ap length w.copied ∙ front_long (take t (row_of T r)) d (rw length-take (omega (arith, row_long, w.fits)))

  pub row_more : {v : ℕ} → t < terms → v ≡ view T r t → RowCopied T d r (t + 1) (set e t v)
  unfolding view
  row_more h same = record {
    full = w.full;
    row = w.row;
    fits = w.fits;
    copied =
        let inside : t < length (row_of T r) = omega (arith, row_long) in
        let entry = get_or-take terms (drop (r * terms) T) t 0 h ∙ get_or-drop (r * terms) T t 0 in
        rw (w.copied, same, ← entry, add-one, take-suc (row_of T r) t 0 inside)
        (front_more (take t (row_of T r)) (get_or (row_of T r) t 0 ∷ []) d (length-take-le t (row_of T r) (omega arith)) (omega (arith, row_long, w.fits)));
  }

  pub row_all : terms ≤ t → e ≡ front (row_of T r) d
  row_all past = w.copied ∙ rw (take_all t (row_of T r) (omega (arith, row_long)))

-- A part that reaches to the end is lent where the front ends; filling its front makes the front of the whole longer.
part_more : (ws vs d : List ℕ) {e ys : List ℕ} {a : ℕ} → length ws ≡ a → e ≡ front ws d → ys ≡ front vs (take (length e - a) (drop a e)) →
    put_mid a (length e - a) e ys ≡ front (ws ++ vs) d
part_more ws vs d {e} {a = a} here copied back =
    let past : length (drop a e) ≤ length e - a = rw length-drop (omega arith) in
    rw (
      back,
      take_all (length e - a) (drop a e) past,
      drop_of_length-le (drop a e) past,
      append-nil,
      copied,
      take_at ws (drop (length ws) d) a here,
      drop_at ws (drop (length ws) d) a here,
      drop-drop,
      length-append ws vs,
      append_assoc,
    )

-- The first r rows of the numbers T are copied to the front of the table d, which is now e.
pub record RowsCopied (T d : List ℕ) (r : ℕ) (e : List ℕ) : Type 0 where
  pub full : length T ≡ records * terms
  pub fits : length d ≡ records * terms
  pub copied : e ≡ front (take (r * terms) T) d

pub rows_none : (b d : List ℕ) → Full b → length d ≡ records * terms → RowsCopied (pairs b) d 0 d
rows_none b d full fits = record { full = full_long b full; fits = fits; copied = rw (zero-mul terms) }

module _ {T d : List ℕ} {r : ℕ} {e : List ℕ} (w : RowsCopied T d r e) where
  pub rows_same : length e ≡ length d
  rows_same = ap length w.copied ∙ front_long (take (r * terms) T) d (rw length-take (omega (arith, w.full, w.fits)))

  -- the part that is lent has a row
  pub rows_start : r < records → r * terms ≤ length e
  rows_start h = omega (arith, row_inside h, rows_same, w.fits)

  pub rows_part : r < records → terms ≤ length (take (length e - r * terms) (drop (r * terms) e))
  rows_part h = rw (length-take, length-drop) (omega (arith, row_inside h, rows_same, w.fits))

  pub rows_more : {ys : List ℕ} → r < records → ys ≡ front (row_of T r) (take (length e - r * terms) (drop (r * terms) e)) →
      RowsCopied T d (r + 1) (put_mid (r * terms) (length e - r * terms) e ys)
  rows_more h back = record {
    full = w.full;
    fits = w.fits;
    copied =
        let here : length (take (r * terms) T) ≡ r * terms = length-take-le (r * terms) T (omega (arith, row_inside h, w.full)) in
        rw (add-one, suc-mul, take-add) (part_more (take (r * terms) T) (row_of T r) d here w.copied back);
  }

  pub rows_all : records ≤ r → e ≡ T
  rows_all past =
      let over : length T ≤ r * terms = rw w.full (mul-le-mul_right terms past) in
      let none : length d ≤ length T = omega (arith, w.full, w.fits) in
      w.copied ∙ rw (take_all (r * terms) T over, drop_of_length-le d none, append-nil)
