-- A triple of an accepted site is read by its low bytes alone.
-- Its numbers are terms, a term is below the base, and so their high bytes are 0.
use Prim.Native.Nat.{ℕ, ◌+◌, ◌*◌, ◌<◌, ◌≤◌}
use mathlib.Core.Path.{◌≡◌, refl, ◌∙◌}
use mathlib.Core.List.{List}
use mathlib.Core.Logic.{inl, inr}
use native.Mathlib.Omega.{arith}
use lib.ListN.{length}
use Rattle.meaning.specs.Limits.{terms}
use Rattle.meaning.specs.Site as meant
use Rattle.records.specs.Bytes.{base, number16}
use Rattle.records.specs.Sites.{triple_width, triple_of, subject_part, predicate_part, object_part, term_at, site_of, Accepted}
use Rattle.records.proofs.SiteRecord.{Terms}
use Rattle.records.proofs.Sites.{length-site_of, triple_site_of}

-- the terms that stand at the parts of triple number k
abbrev pub by_parts : List ℕ → ℕ → meant.Triple
by_parts s k = record { subject = term_at s k subject_part; predicate = term_at s k predicate_part; object = term_at s k object_part }

-- a term is below the base of bytes
terms_fit : terms ≤ base
unfolding terms
terms_fit = omega arith

-- a number that is a term is its low byte
low_byte : (s : List ℕ) (k i : ℕ) → number16 s (k * triple_width + i) < terms → number16 s (k * triple_width + i) ≡ term_at s k (i + 1)
unfolding number16 term_at
low_byte s k i h =
    let next : k * triple_width + i + 1 ≡ k * triple_width + (i + 1) = omega arith in
    rw (← next) (omega (arith, terms_fit))

module _ {s : List ℕ} {n k : ℕ} (good : Accepted s n) (here : k < n) where
  -- The numbers of triple number k are terms,
  pub triple_terms : Terms (meant.triple (site_of s n) k)
  triple_terms =
      let below : k < length (site_of s n) = rw (length-site_of s n) here in
      record {
        subject = good.within _ (record { number = k; below = below; stands = inl refl });
        predicate = good.within _ (record { number = k; below = below; stands = inr (inl refl) });
        object = good.within _ (record { number = k; below = below; stands = inr (inr refl) });
      }

  -- and stand at its parts.
  pub triple_parts : meant.triple (site_of s n) k ≡ by_parts s k
  unfolding triple_of
  triple_parts = triple_site_of s n k here ∙ low (rw (triple_site_of s n k here) at triple_terms)
    where
      low : Terms (triple_of s (k * triple_width)) → triple_of s (k * triple_width) ≡ by_parts s k
      low are = rw (low_byte s k 1 are.subject, low_byte s k 3 are.predicate, low_byte s k 5 are.object)
