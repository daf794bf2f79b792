-- A site read from its bytes, record by record (document 01, "Records" and "Numbered refusals").
-- The tests at a record stand in the document's order, and the first that holds refuses it.
use Rattle.std.specs.Prelude.{ℕ, zero, suc, ◌+◌, ◌*◌, ◌-◌, ◌/◌, ◌<◌, ◌≤◌, ◌≡◌, List, [], ◌∷◌, ◌++◌, Bool, true, cond, not, ◌&&◌, length, get_or, ltb, leb, eqb, Option, Some, None, Result, Ok, Err}
use Rattle.meaning.specs.Limits.{terms, triples}
use Rattle.meaning.specs.Site as meant
use Rattle.records.specs.Bytes.{number16}
use Rattle.records.specs.declared.Triple.{Triple}
use Rattle.records.specs.declared.Reason.{Reason}
use Rattle.records.specs.declared.Reason.TheVariants.{SiteKind, SiteCut, SiteLong, SiteTerm, SiteOrder}
use Rattle.records.specs.declared.Refusal.{Refusal}

-- a site record's kind, and its length in bytes
abbrev pub triple_kind : ℕ
triple_kind = 10

abbrev pub triple_width : ℕ
triple_width = 7

-- where its terms stand in a record, by their low bytes
abbrev pub subject_part : ℕ
subject_part = 2

abbrev pub predicate_part : ℕ
predicate_part = 4

abbrev pub object_part : ℕ
object_part = 6

-- the term that stands at a part of triple number k
unfoldable pub term_at : List ℕ → ℕ → ℕ → ℕ
term_at s k part = get_or s (k * triple_width + part) 0

-- the triple of the record that begins at a place
unfoldable pub triple_of : List ℕ → ℕ → meant.Triple
triple_of s at =
    record { subject = number16 s (at + 1); predicate = number16 s (at + 3); object = number16 s (at + 5) }

-- a triple as the code holds it
abbrev pub in_code : meant.Triple → Triple
in_code x = record { subject = x.subject; predicate = x.predicate; object = x.object }

-- each of its numbers is a term
unfoldable pub all_terms : Triple → Bool
all_terms x = ltb x.subject terms && ltb x.predicate terms && ltb x.object terms

-- it stands above another: of the numbers that differ the first decides
unfoldable pub is_above : Triple → Triple → Bool
is_above x y =
    cond (eqb x.subject y.subject)
    (cond (eqb x.predicate y.predicate) (ltb y.object x.object) (ltb y.predicate x.predicate))
    (ltb y.subject x.subject)

-- it is the triple of the first record, or stands above that of the record before
unfoldable pub is_in_order : List ℕ → ℕ → Triple → Bool
is_in_order s at x = cond (ltb at triple_width) true (is_above x (in_code (triple_of s (at - triple_width))))

-- what stands at a place of a site: a triple, the end, or a refusal
abbrev pub SiteFound : Type 0
SiteFound = Result (Option Triple) Refusal

abbrev pub denial : Reason → ℕ → SiteFound
denial why at = Err (record { reason = why; place = at })

-- what stands at a place, which is a record's number times its length:
-- the end, the first of the refusals 4, 2, 3, 5 and 6 that holds, or a triple
unfoldable pub site_record_at : List ℕ → ℕ → SiteFound
site_record_at s at =
    cond (leb (length s) at) (Ok None)
    (cond (leb (triples * triple_width) at) (denial SiteLong at)
    (cond (not (eqb (get_or s at 0) triple_kind)) (denial SiteKind at)
    (cond (ltb (length s - at) triple_width) (denial SiteCut at)
    (cond (not (all_terms (in_code (triple_of s at)))) (denial SiteTerm at)
    (cond (not (is_in_order s at (in_code (triple_of s at)))) (denial SiteOrder at)
    (Ok (Some (in_code (triple_of s at)))))))))

-- the answer to reading on from record number k
pub data SiteRead (s : List ℕ) : ℕ → Result ℕ Refusal → Type 0 where
  ended : {k : ℕ} → site_record_at s (k * triple_width) ≡ Ok None → SiteRead s k (Ok k)
  denied : {k : ℕ} {x : Refusal} → site_record_at s (k * triple_width) ≡ Err x → SiteRead s k (Err x)
  one_more : {k : ℕ} {x : Triple} {answer : Result ℕ Refusal} → site_record_at s (k * triple_width) ≡ Ok (Some x) →
      SiteRead s (k + 1) answer → SiteRead s k answer

-- the answer to reading all of it: so many triples, or the first refusal
abbrev pub Checked : List ℕ → Result ℕ Refusal → Type 0
Checked s answer = SiteRead s 0 answer

-- a record begins at a place, and what is answered to reading on from there is answered to the site
pub record Begun (s : List ℕ) (at : ℕ) : Type 0 where
  pub place : at / triple_width * triple_width ≡ at
  pub rest : (answer : Result ℕ Refusal) → SiteRead s (at / triple_width) answer → Checked s answer

-- the site of the first n triples
unfoldable pub site_of : List ℕ → ℕ → meant.Site
site_of s zero = []
site_of s (suc n) = site_of s n ++ (triple_of s (n * triple_width) ∷ [])

-- x stands above y, by subject, predicate, object
pub data Above (x y : meant.Triple) : Type 0 where
  by_subject : y.subject < x.subject → Above x y
  by_predicate : y.subject ≡ x.subject → y.predicate < x.predicate → Above x y
  by_object : y.subject ≡ x.subject → y.predicate ≡ x.predicate → y.object < x.object → Above x y

-- each triple stands above the one before it
abbrev pub Ascending : meant.Site → Type 0
Ascending s = (k : ℕ) → k + 1 < length s → Above (meant.triple s (k + 1)) (meant.triple s k)

-- what it is to be accepted as n triples: all bytes are read, the triples are few enough and in order, their terms are terms
pub record Accepted (s : List ℕ) (n : ℕ) : Type 0 where
  pub long : length s ≡ n * triple_width
  pub few : n ≤ triples
  pub within : meant.Within (site_of s n)
  pub ascending : Ascending (site_of s n)
