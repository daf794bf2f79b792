-- Marking the terms of a site, triple by triple: the terms of the first k triples are marked, and then those of one more.
-- In the end the marks are the terms that the site mentions, and their sum is the number of different terms.
use Prim.Native.Nat.{ℕ, ◌+◌, ◌*◌, ◌<◌}
use mathlib.Core.Path.{◌≡◌, refl}
use mathlib.Core.Logic.Iff
use mathlib.Core.Logic.{◌⊎◌, inl, inr, ⊎_elim, ◌↔◌}
use mathlib.Core.List.{List}
use lib.ListN.{set, replicate}
use Rattle.meaning.specs.Limits.{terms}
use Rattle.meaning.specs.Site as meant
use Rattle.meaning.specs.Site.{Mentioned}
use Rattle.meaning.proofs.Counting.{count_same}
use Rattle.records.specs.declared.Triple.{Triple}
use Rattle.records.specs.Sites.{triple_width, triple_of, in_code, site_of, Accepted}
use Rattle.records.proofs.Sites.{length-site_of, triple_site_of}
use Rattle.fewest.specs.Sweep.{sum}
use Rattle.calls.specs.Tables.{TermTable}
use Rattle.calls.specs.Inner.{Counted}
use Rattle.calls.proofs.Standing.{Standing, standing_none, standing_more}
use Rattle.calls.proofs.TermTables.{table_none, table_same, table_mark, table_count}

-- the term stands in the triple
abbrev pub Stands : meant.Triple → ℕ → Type 0
Stands x t = (t ≡ x.subject) ⊎ (t ≡ x.predicate) ⊎ (t ≡ x.object)

-- three more marks, one after the other, are three alternatives more
three_more : {A B C D : Type 0} → (((A ⊎ B) ⊎ C) ⊎ D) ↔ (A ⊎ (B ⊎ C ⊎ D))
three_more {A} {B} {C} {D} = (
  ⊎_elim (⊎_elim (⊎_elim inl (λ b. inr (inl b))) (λ c. inr (inr (inl c)))) (λ d. inr (inr (inr d))),
  ⊎_elim (λ a. inl (inl (inl a))) back,
)
  where
    back : B ⊎ C ⊎ D → ((A ⊎ B) ⊎ C) ⊎ D
    back (inl b) = inl (inl (inr b))
    back (inr (inl c)) = inl (inr c)
    back (inr (inr d)) = inr d

module _ (s : List ℕ) where
  -- a term is mentioned by the first k triples just where it stands in one of them
  mentioned : (k t : ℕ) → Standing s Stands k t ↔ Mentioned (site_of s k) t
  mentioned k t = (
    λ (j, below, stands). record {
      number = j;
      below = rw (length-site_of s k) below;
      stands = rw (triple_site_of s k j below) stands;
    },
    λ m. let below : m.number < k = rw (length-site_of s k) at m.below in
        (m.number, below, rw (triple_site_of s k m.number below) at m.stands),
  )

  -- At first nothing is marked.
  pub noted_none : {b : List ℕ} → b ≡ replicate terms 0 → TermTable (Standing s Stands 0) b
  noted_none e = table_none e (standing_none s Stands)

  module _ {n : ℕ} (good : Accepted s n) where
    -- The numbers of a triple are terms,
    pub triple_terms : (k : ℕ) {x : Triple} → k < n → x ≡ in_code (triple_of s (k * triple_width)) →
        (x.subject < terms) × (x.predicate < terms) × (x.object < terms)
    triple_terms k h same = rw same (term (inl refl), term (inr (inl refl)), term (inr (inr refl)))
      where
        term : {t : ℕ} → Stands (triple_of s (k * triple_width)) t → t < terms
        term stands = good.within _ ((mentioned n _).0 (k, h, stands))

    -- and with their marks the terms of one more triple are marked.
    pub noted_more : (k : ℕ) {x : Triple} {b : List ℕ} → k < n → x ≡ in_code (triple_of s (k * triple_width)) →
        TermTable (Standing s Stands k) b →
        TermTable (Standing s Stands (k + 1)) (set (set (set b x.subject 1) x.predicate 1) x.object 1)
    noted_more k h same noted =
        let (subject, predicate, object) = triple_terms k h refl in
        rw same (table_same (λ t i. Iff.trans three_more (standing_more s Stands k t)) (table_mark (table_mark (table_mark noted subject) predicate) object))

    -- The sum of the marks is the number of different terms.
    pub noted_counted : {b : List ℕ} → TermTable (Mentioned (site_of s n)) b → Counted s n (sum b)
    noted_counted noted = count_same (table_count noted) (λ t. (λ (h, m). m, λ m. (good.within t m, m)))

  -- All triples seen, the terms of the site are marked.
  pub noted_all : {n k : ℕ} {b : List ℕ} → k ≡ n → TermTable (Standing s Stands k) b → TermTable (Mentioned (site_of s n)) b
  noted_all {n} e noted = table_same (λ t i. mentioned n t) (rw e at noted)
