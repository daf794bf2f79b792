-- A site: its triples, its terms and its vocabulary (document 01, "Records" and "The relation").
-- Triples are numbered from 0; a triple is what stands at its number.
use Rattle.std.specs.Prelude.{ℕ, ◌<◌, ◌≡◌, List, ◌⊎◌, length, get_or}
use Rattle.meaning.specs.Limits.{terms}

pub record Triple : Type 0 where
  pub subject : ℕ
  pub predicate : ℕ
  pub object : ℕ

abbrev pub Site : Type 0
Site = List Triple

-- the triple with number k
abbrev pub triple : Site → ℕ → Triple
triple s k = get_or s k (record { subject = 0; predicate = 0; object = 0 })

-- the vocabulary: the terms that stand as subject or object of some triple
pub record Voc (s : Site) (t : ℕ) : Type 0 where
  pub number : ℕ
  pub below : number < length s
  pub stands : (t ≡ (triple s number).subject) ⊎ (t ≡ (triple s number).object)

-- the terms of the site: those that stand anywhere in a triple, predicates included
pub record Mentioned (s : Site) (t : ℕ) : Type 0 where
  pub number : ℕ
  pub below : number < length s
  pub stands : (t ≡ (triple s number).subject) ⊎ (t ≡ (triple s number).predicate) ⊎ (t ≡ (triple s number).object)

-- every term of the site is one of the terms
abbrev pub Within : Site → Type 0
Within s = (t : ℕ) → Mentioned s t → t < terms
