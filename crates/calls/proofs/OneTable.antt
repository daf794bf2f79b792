-- What stands in a lent table is determined: two tables that fit its description are equal.
-- A table of bytes is its numbers spread out, so it is determined by the numbers that it holds.
use Prim.Native.Nat.{ℕ, zero, suc, ◌+◌, ◌*◌, ◌/◌, ◌%◌, ◌-◌, ◌<◌}
use mathlib.Core.Path.{◌≡◌, refl, sym, ap, ◌∙◌}
use mathlib.Core.List.{List, [], ◌∷◌}
use native.Mathlib.Nat.{mul-zero, zero-lt-suc, mod-lt, div-add-mod', div-lt_iff_lt-mul}
use native.Mathlib.Decide.{ℕ_discrete, dec_lt}
use native.Mathlib.Omega.{arith}
use lib.ListN.{length, get_or}
use lib.Arith.{digits_div, digits_mod}
use lib.Seq.{ext_get_or}
use Rattle.meaning.specs.Limits.{terms, records}
use Rattle.meaning.specs.Site.{Site}
use Rattle.meaning.specs.Expression.{Expr, size, Numbered}
use Rattle.meaning.specs.Fewest.{Goal, Numbers}
use Rattle.meaning.specs.Question.{Tells}
use Rattle.meaning.proofs.Names.{node_named}
use Rattle.meaning.proofs.Ways.{fewest_unique}
use Rattle.fewest.specs.Pairs.{pairs}
use Rattle.fewest.specs.Offer.{view}
use Rattle.calls.specs.Tables.{QuestionTable, NumberTable, TermTable}
use Rattle.calls.specs.Promise.{Form, as_words, as_bytes, numbers_of, length_in, spread}
pub use Rattle.calls.specs.Written.{Bytes, Slice}

-- each number below so many rows is the place of a row and a place in it
row_place : (m c : ℕ) {i : ℕ} → i < m * c → (r t : ℕ) × (r < m) × (t < c) × (r * c + t ≡ i)
row_place m zero h = absurd (omega (arith, mul-zero m))
row_place m (suc c) {i} h =
    (i / suc c, i % suc c, (div-lt_iff_lt-mul (zero-lt-suc c)).1 h, mod-lt i (zero-lt-suc c), div-add-mod' i (suc c))

-- two tables that have the same entries are equal
view_unique : {b c : List ℕ} → length b ≡ records * terms → length c ≡ records * terms →
    ((r t : ℕ) → r < records → t < terms → view b r t ≡ view c r t) → b ≡ c
unfolding view
view_unique {b} {c} long as_long same = ext_get_or 0 b c (long ∙ sym as_long) entry
  where
    entry : (i : ℕ) → i < length b → get_or b i 0 ≡ get_or c i 0
    entry i h = let (r, t, row, term, e) = row_place records terms (rw long at h) in rw (← e) (same r t row term)

-- what tells whether a thing is so is one number
tells_unique : {P : Type 0} {b c : ℕ} → Tells P b → Tells P c → b ≡ c
tells_unique {b = b} {c = c} x y = elim (ℕ_discrete b 1) [
  | yes e ↦ e ∙ sym (y.exactly.1 (x.exactly.0 e))
  | no e ↦ elim (ℕ_discrete c 1) [ yes f ↦ absurd (e (x.exactly.1 (y.exactly.0 f))) | no f ↦ omega arith ]
]

-- The byte table is determined,
pub questions_unique : {s : Site} {e : Expr} {z : ℕ} {b c : List ℕ} → QuestionTable s e z b → QuestionTable s e z c → b ≡ c
questions_unique x y = view_unique x.long y.long (λ r t h k. tells_unique (x.tells r t h k) (y.tells r t h k))

-- and a third table,
pub terms_unique : {P : ℕ → Type 0} {b c : List ℕ} → TermTable P b → TermTable P c → b ≡ c
terms_unique {b = b} {c = c} x y =
    ext_get_or 0 b c (x.long ∙ sym y.long) (λ u h. let k = rw x.long at h in tells_unique (x.tells u k) (y.tells u k))

-- and the number table: each row belongs to a subexpression or is unused.
pub numbers_unique : {s : Site} {g : Goal} {e : Expr} {b c : List ℕ} → Numbered 0 e → NumberTable s g e b → NumberTable s g e c → b ≡ c
unfolding Numbers
numbers_unique {e = e} {b = b} {c = c} numbered x y = view_unique x.long y.long entry
  where
    entry : (r t : ℕ) → r < records → t < terms → view b r t ≡ view c r t
    entry r t row term = elim (dec_lt r (size e)) [
      | yes h ↦
          let (d, K, stands, named) = node_named numbered r h in
          rw (← named) (fewest_unique (x.numbers d K stands t term) (y.numbers d K stands t term))
      | no h ↦ x.unused r t (omega arith) row term ∙ sym (y.unused r t (omega arith) row term)
    ]

-- bytes, an even number of them, are the numbers that they hold, spread out
pub spread_pairs : (n : ℕ) (b : List ℕ) → length b ≡ n + n → Bytes b → spread (pairs b) ≡ b
unfolding spread pairs
spread_pairs n [] long small = refl
spread_pairs n (h ∷ []) long small = absurd (omega arith)
spread_pairs n (h ∷ (l ∷ b)) long small =
    rw (digits_div h (small 1), digits_mod h (small 1), spread_pairs (n - 1) b (omega arith) (λ i. small (suc (suc i))))

-- Bytes are determined by the numbers that they hold.
pub pairs_injective : (n : ℕ) {b c : List ℕ} → length b ≡ n + n → length c ≡ n + n → Bytes b → Bytes c →
    pairs b ≡ pairs c → b ≡ c
pairs_injective n {b} {c} long as_long small as-small same =
    sym (spread_pairs n b long small) ∙ ap spread same ∙ spread_pairs n c as_long as-small

-- So a number table is determined in either form.
pub lent_unique : (f : Form) {s : Site} {g : Goal} {e : Expr} {b c : List ℕ} → Slice f b → Slice f c → Numbered 0 e →
    length b ≡ length_in f (records * terms) → length c ≡ length_in f (records * terms) →
    NumberTable s g e (numbers_of f b) → NumberTable s g e (numbers_of f c) → b ≡ c
lent_unique as_words small as-small numbered long as_long x y = numbers_unique numbered x y
lent_unique as_bytes small as-small numbered long as_long x y =
    pairs_injective (records * terms) long as_long small as-small (numbers_unique numbered x y)
