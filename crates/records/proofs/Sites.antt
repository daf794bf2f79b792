-- What a whole site's reading shows.
-- Two answers to one site are equal, and an accepted site is a site of document 01.
use Prim.Native.Nat.{ℕ, zero, suc, ◌+◌, ◌*◌, ◌<◌, ◌≤◌, zero-le}
use native.Mathlib.Nat.{le_of_suc-le-suc, eq-or-lt_of_le}
use native.Mathlib.Omega.{arith}
use mathlib.Core.Path.{◌≡◌, refl, ◌∙◌}
use mathlib.Core.List.{List, [], ◌∷◌, ◌++◌}
use mathlib.Core.Logic.{◌⊎◌, inl, inr, ⊎_elim}
use lib.ListN.{length, length-append, get_or-append}
use lib.Seq.{get_or_at}
use Rattle.meaning.specs.Limits.{terms, triples}
use Rattle.meaning.specs.Site as meant
use Rattle.records.specs.Sites.{triple_width, triple_of, SiteRead, ended, denied, one_more, Checked, site_of, Ascending, Accepted}
use Rattle.std.specs.Prelude.{Result, Ok}
use Rattle.records.specs.declared.Refusal.{Refusal}
use Rattle.records.proofs.SiteRecord.{Whole, whole, ends, Terms, terms_fit_all, in_order}

read_unique : {s : List ℕ} {k : ℕ} {x y : Result ℕ Refusal} → SiteRead s k x → SiteRead s k y → x ≡ y
read_unique (ended e) (ended f) = refl
read_unique (ended e) (denied f) = cc
read_unique (ended e) (one_more f q) = cc
read_unique (denied e) (ended f) = cc
read_unique (denied e) (denied f) = cc
read_unique (denied e) (one_more f q) = cc
read_unique (one_more e p) (ended f) = cc
read_unique (one_more e p) (denied f) = cc
read_unique (one_more e p) (one_more f q) = read_unique p q

-- two answers to one site are equal
pub checked_unique : {s : List ℕ} {x y : Result ℕ Refusal} → Checked s x → Checked s y → x ≡ y
checked_unique p q = read_unique p q

-- a site of n triples has n triples
pub length-site_of : (s : List ℕ) (n : ℕ) → length (site_of s n) ≡ n
unfolding site_of
length-site_of s zero = refl
length-site_of s (suc n) = simp (length-append, length-site_of s n) (omega arith)

-- its triple number k is that of record number k
pub triple_site_of : (s : List ℕ) (n k : ℕ) → k < n → meant.triple (site_of s n) k ≡ triple_of s (k * triple_width)
unfolding site_of
triple_site_of s zero k h = elim h [ ]
triple_site_of s (suc n) k h = ⊎_elim here (earlier (triple_site_of s n k)) (eq-or-lt_of_le (le_of_suc-le-suc h))
  where
    here : k ≡ n → meant.triple (site_of s n ++ (triple_of s (n * triple_width) ∷ [])) k ≡ triple_of s (k * triple_width)
    here e = rw e (get_or_at (site_of s n) _ [] _ n (length-site_of s n))

    earlier : (k < n → meant.triple (site_of s n) k ≡ triple_of s (k * triple_width)) → k < n →
        meant.triple (site_of s n ++ (triple_of s (n * triple_width) ∷ [])) k ≡ triple_of s (k * triple_width)
    earlier same l = get_or-append (site_of s n) _ _ k (rw (length-site_of s n) l) ∙ same l

-- what it shows that reading on from record number k finds n triples in all
record Rest (s : List ℕ) (k n : ℕ) : Type 0 where
  long : length s ≡ n * triple_width
  few : n ≤ triples
  each : (j : ℕ) → k ≤ j → j < n → Whole s (j * triple_width)

rest : {s : List ℕ} {k n : ℕ} → k * triple_width ≤ length s → k ≤ triples → SiteRead s k (Ok n) → Rest s k n
rest {s} {k} inside few (ended e) =
    record { long = omega (arith, ends s (k * triple_width) e); few = few; each = λ j a b. absurd (omega arith) }
rest {s} {k} {n} inside few (one_more e p) =
    let w : Whole s (k * triple_width) = whole s (k * triple_width) e in
    let r : Rest s (k + 1) n = rest (omega arith) (omega arith) p in
    record {
      long = r.long;
      few = r.few;
      each = λ j a b. ⊎_elim (λ here. rw (← here) w) (λ later. r.each j (omega arith) b) (eq-or-lt_of_le a);
    }

-- an accepted site is a site of document 01
pub checked_site : {s : List ℕ} {n : ℕ} → Checked s (Ok n) → Accepted s n
checked_site {s} {n} p = record { long = all.long; few = all.few; within = within; ascending = ascending }
  where
    all : Rest s 0 n
    all = rest zero-le zero-le p

    stands : {t : ℕ} (x : meant.Triple) → Terms x → (t ≡ x.subject) ⊎ (t ≡ x.predicate) ⊎ (t ≡ x.object) → t < terms
    stands x are (inl e) = rw e are.subject
    stands x are (inr (inl e)) = rw e are.predicate
    stands x are (inr (inr e)) = rw e are.object

    within : meant.Within (site_of s n)
    within t m =
        let k = m.number in
        let below : k < n = rw (length-site_of s n) at m.below in
        stands _ (rw (triple_site_of s n k below) (terms_fit_all _ (all.each k zero-le below).terms)) m.stands

    ascending : Ascending (site_of s n)
    ascending k h =
        let below : k + 1 < n = rw (length-site_of s n) at h in
        let next : (k + 1) * triple_width ≡ k * triple_width + triple_width = omega arith in
        let before : k < n = omega arith in
        let w : Whole s (k * triple_width + triple_width) = rw next at (all.each (k + 1) zero-le below) in
        rw (triple_site_of s n (k + 1) below, triple_site_of s n k before, next) (in_order s (k * triple_width) w.order)
