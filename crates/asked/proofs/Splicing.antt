-- A part of a table, of which the entries stand in the table from a place on. Where it was lent it is spliced back: its entries stand
-- where it began, and the others are as they were.
use Prim.Native.Nat.{ℕ, ◌+◌, ◌-◌, ◌<◌, ◌≤◌}
use mathlib.Core.Path.{◌≡◌, sym, ap, ◌∙◌}
use mathlib.Core.List.{List, ◌++◌}
use native.Mathlib.Omega.{arith}
use lib.ListN.{length, get_or, take, drop, length-drop, get_or-append}
use lib.Seq.{get_or-take, get_or-drop, length-take-le}
use Rattle.std.proofs.lemmas.List.{get_or-append_right}
use borrow.Rule.Slice.PartMut.{mid_of, post_of, put_mid, same_len_mid}
use Rattle.asked.specs.Narrow.{Written}

pub length-part : (a k : ℕ) (b : List ℕ) → a + k ≤ length b → length (mid_of a k b) ≡ k
length-part a k b inside = length-take-le k (drop a b) (rw (length-drop a b) (omega arith))

pub part_at : (a k : ℕ) (b : List ℕ) (i : ℕ) → a ≤ i → i < a + k → get_or (mid_of a k b) (i - a) 0 ≡ get_or b i 0
part_at a k b i from to =
    let on : a + (i - a) ≡ i = omega arith in
    get_or-take k (drop a b) (i - a) 0 (omega arith) ∙ get_or-drop a b (i - a) 0 ∙ ap (λ j. get_or b j 0) on

-- n entries from place a on were lent
pub spliced : (a n : ℕ) {k : ℕ} (b ys : List ℕ) → k ≡ n → a + n ≤ length b → length ys ≡ n → Written a n (λ i. get_or ys i 0) b (put_mid a k b ys)
spliced a n {k} b ys size inside long = record {
  long = same_len_mid a k b ys (long ∙ sym size ∙ sym (length-part a k b (omega arith)));
  there = λ i h.
      let own : a + i - a ≡ i = omega arith in
      get_or-append_right (take a b) (ys ++ post_of a k b) a (a + i) 0 front (omega arith) ∙ rw own (get_or-append ys (post_of a k b) 0 i (omega arith));
  below = λ i h. get_or-append (take a b) (ys ++ post_of a k b) 0 i (omega (arith, front)) ∙ get_or-take a b i 0 h;
  above = λ i h.
      let on : a + (k + (i - a - k)) ≡ i = omega arith in
      get_or-append_right (take a b) (ys ++ post_of a k b) a i 0 front (omega arith) ∙ get_or-append_right ys (post_of a k b) k (i - a) 0 (omega arith) (omega arith)
      ∙ get_or-drop k (drop a b) (i - a - k) 0 ∙ get_or-drop a b (k + (i - a - k)) 0 ∙ ap (λ j. get_or b j 0) on;
}
  where
    front : length (take a b) ≡ a
    front = length-take-le a b (omega arith)
