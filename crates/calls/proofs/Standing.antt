-- Terms that stand, in some way, in the first k triples of a site: in none of none, and in one triple more those of it.
-- So a loop over the triples marks them.
use Prim.Native.Nat.{ℕ, ◌+◌, ◌*◌, ◌<◌, ◌≤◌}
use mathlib.Core.Logic.{◌⊎◌, inl, inr, ⊎_elim, ◌↔◌}
use mathlib.Core.List.{List}
use native.Mathlib.Omega.{arith}
use native.Mathlib.Nat.{eq-or-lt_of_le}
use Rattle.meaning.specs.Site as meant
use Rattle.records.specs.Sites.{triple_width, triple_of}

-- the term stands in one of the first k triples, in the way that S says
abbrev pub Standing : List ℕ → (meant.Triple → ℕ → Type 0) → (k t : ℕ) → Type 0
Standing s S k t = (j : ℕ) × (j < k) × S (triple_of s (j * triple_width)) t

-- In no triple stands nothing,
pub standing_none : (s : List ℕ) (S : meant.Triple → ℕ → Type 0) (t : ℕ) → Standing s S 0 t → ⊥
standing_none s S t (j, below, stands) = omega arith

-- and in one triple more what stands in it.
pub standing_more : (s : List ℕ) (S : meant.Triple → ℕ → Type 0) (k t : ℕ) →
    (Standing s S k t ⊎ S (triple_of s (k * triple_width)) t) ↔ Standing s S (k + 1) t
standing_more s S k t = (
  ⊎_elim (λ (j, below, stands). (j, omega arith, stands)) (λ stands. (k, omega arith, stands)),
  λ (j, below, stands).
      let before : j ≤ k = omega arith in
      ⊎_elim (λ e. inr (rw e at stands)) (λ less. inl (j, less, stands)) (eq-or-lt_of_le before),
)
