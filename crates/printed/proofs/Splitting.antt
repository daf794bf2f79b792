-- An input is split in one way.
use Prim.Native.Nat.{ℕ, ◌+◌, ◌*◌, ◌<◌, ◌≤◌}
use mathlib.Core.Path.{◌≡◌, refl, ap, sym, ◌∙◌}
use mathlib.Core.Bool.{true, false}
use mathlib.Core.List.{List}
use native.Mathlib.Nat.{add-zero}
use native.Mathlib.Omega.{arith}
use Rattle.std.proofs.lemmas.Grind.{common_steps}
use Rattle.std.specs.Prelude.{Result, Ok}
use lib.ListN.{length, get_or, drop}
use lib.Seq.{get_or-drop}
use Rattle.records.specs.Bytes.{base, number16}
use Rattle.records.specs.declared.Refusal.{Refusal}
use Rattle.printed.specs.declared.split.Parts.{Parts}
use Rattle.printed.specs.Input.{input_most, query_kind, query_width, query_at, has_query, ahead, SiteEnds, all, other, more, Splits, refused, parts, start_of, end_of}

-- An input has its query record where none of the three tests fails,
module _ (s : List ℕ) where
  pub too_short : length s < query_width → has_query s ≡ false
  unfolding has_query
  too_short h = grind (arith, common_steps)

  pub too_long : input_most < length s → has_query s ≡ false
  unfolding has_query
  too_long h = grind (arith, common_steps)

  pub other_kind : (get_or s (query_at s) 0 ≡ query_kind → ⊥) → has_query s ≡ false
  unfolding has_query
  other_kind h = grind (arith, common_steps)

  pub is_query : length s ≤ input_most → query_width ≤ length s → get_or s (query_at s) 0 ≡ query_kind → has_query s ≡ true
  unfolding has_query
  is_query few long kind = grind (arith, common_steps)

-- and then it has five bytes.
pub query_long : (s : List ℕ) → has_query s ≡ true → query_width ≤ length s
unfolding has_query
query_long s e = grind (arith, common_steps)

-- The parts of an input, by what stands ahead of its last five bytes and by those.
module _ (s : List ℕ) {front last : List ℕ} (is_front : front ≡ ahead s) (is_last : last ≡ drop (query_at s) s) where
  pub byte_of : (j : ℕ) → get_or last j 0 ≡ get_or s (query_at s + j) 0
  byte_of j = ap (λ l. get_or l j 0) is_last ∙ get_or-drop (query_at s) s j 0

  pub kind_of : get_or last 0 0 ≡ get_or s (query_at s) 0
  kind_of = byte_of 0 ∙ ap (λ j. get_or s j 0) (add-zero _)

  pub splits_parts : {to : ℕ} → length s ≤ input_most → query_width ≤ length s → get_or last 0 0 ≡ query_kind → SiteEnds front 0 to →
      Splits s (Ok (record { rule = to; start = get_or last 1 0 * base + get_or last 2 0; end = get_or last 3 0 * base + get_or last 4 0 }))
  unfolding number16
  splits_parts few long kind p =
      let two : query_at s + 2 ≡ query_at s + 1 + 1 = omega arith in
      let four : query_at s + 4 ≡ query_at s + 3 + 1 = omega arith in
      rw (byte_of 1, byte_of 2, byte_of 3, byte_of 4, two, four) (parts (is_query s few long (sym kind_of ∙ kind)) (rw is_front at p))

-- the site's records end within the bytes, and at one place
pub ends_within : {s : List ℕ} {at to : ℕ} → SiteEnds s at to → to ≤ length s
ends_within (all h e) = omega arith
ends_within (other h n) = omega arith
ends_within (more h t p) = ends_within p

pub ends_unique : {s : List ℕ} {at i j : ℕ} → SiteEnds s at i → SiteEnds s at j → i ≡ j
ends_unique (all h e) (all k f) = e ∙ sym f
ends_unique (all h e) (other k n) = absurd (omega arith)
ends_unique (all h e) (more k t q) = absurd (omega arith)
ends_unique (other h n) (all k f) = absurd (omega arith)
ends_unique (other h n) (other k m) = refl
ends_unique (other h n) (more k t q) = absurd (n t)
ends_unique (more h t p) (all k f) = absurd (omega arith)
ends_unique (more h t p) (other k n) = absurd (n t)
ends_unique (more h t p) (more k u q) = ends_unique p q

-- Two splits of one input are equal.
pub split_unique : {s : List ℕ} {x y : Result Parts Refusal} → Splits s x → Splits s y → x ≡ y
split_unique (refused p) (refused q) = refl
split_unique (refused p) (parts q f) = cc
split_unique (parts p e) (refused q) = cc
split_unique {s} (parts p e) (parts q f) = ap (λ to. Ok (record { rule = to; start = start_of s; end = end_of s })) (ends_unique e f)
