-- A plainly sound record is read as a triple.
-- Its eight bytes hold its kind and its terms, and as numbers they are in the order of the triples.
use Prim.Native.Nat.{ℕ, ◌+◌, ◌*◌, ◌-◌, ◌%◌, ◌<◌, ◌≤◌}
use native.Mathlib.Omega.{arith}
use mathlib.Core.Path.{◌≡◌, refl}
use mathlib.Core.List.{List}
use mathlib.Core.Bool.{true}
use lib.ListN.{length, get_or}
use borrow.Author.Tests.{le-ltb}
use Rattle.meaning.specs.Limits.{terms, triples}
use Rattle.meaning.specs.Site as meant
use Rattle.records.specs.Bytes.{base, two_bytes, four_bytes, number16, number64}
use Rattle.records.specs.Sites.{triple_kind, triple_width, triple_of, in_code, is_above, is_in_order, site_record_at}
use Rattle.std.proofs.lemmas.Bool.Decides.{nat_tests}
use Rattle.std.specs.Prelude.{Some, Ok}
use Rattle.records.specs.Plain.{Plain}
use Rattle.records.proofs.TwoBytes.{AllBytes, two_fit, eight_twos, low_alone}
use Rattle.records.proofs.SiteRecord.{Terms, terms_pass, read_whole}

-- a triple as its record has it: the kind, the terms in two bytes each, and the kind of the next
abbrev packed : meant.Triple → ℕ
packed x = (((triple_kind * two_bytes + x.subject) * two_bytes + x.predicate) * two_bytes + x.object) * base + triple_kind

-- a record of a triple's kind and of terms, and another of the kind after it
pub record Holds (s : List ℕ) (at : ℕ) : Type 0 where
  pub kind : get_or s at 0 ≡ triple_kind
  pub terms : Terms (triple_of s at)
  pub eight : number64 s at ≡ packed (triple_of s at)

-- the tests of the eight bytes are tests of each two
twos : (a b c d : ℕ) → a < two_bytes → b < two_bytes → c < two_bytes → d < two_bytes → Plain ((a * two_bytes + b) * four_bytes + (c * two_bytes + d)) →
    (a ≡ triple_kind * base) × (b % base ≡ 0) × (c % base ≡ 0) × (d % base ≡ triple_kind)
twos a b c d ha hb hc hd p = (omega arith, omega arith, omega arith, omega arith)

high_kind : (s : List ℕ) (at : ℕ) → AllBytes s → number16 s at ≡ triple_kind * base → get_or s at 0 ≡ triple_kind
unfolding number16
high_kind s at bytes e = omega (arith, bytes (at + 1))

-- A plain record is one,
pub plain_holds : (s : List ℕ) (at : ℕ) → AllBytes s → Plain (number64 s at) → Holds s at
unfolding triple_of terms
plain_holds s at bytes p =
    let eight = eight_twos s at in
    let fit : (i : ℕ) → number16 s i < two_bytes = λ i. two_fit s i bytes in
    let (subject, predicate, object, next) = twos _ _ _ _ (fit at) (fit (at + 2)) (fit (at + 4)) (fit (at + 6)) (rw eight at p) in
    let first = low_alone s at (at + 1) (at + 2) bytes refl (omega arith) (omega arith) in
    let second = low_alone s (at + 2) (at + 3) (at + 4) bytes (omega arith) (omega arith) predicate in
    let third = low_alone s (at + 4) (at + 5) (at + 6) bytes (omega arith) (omega arith) object in
    record {
      kind = high_kind s at bytes subject;
      terms = record { subject = first.0; predicate = second.0; object = third.0 };
      eight = omega arith;
    }

-- of two triples of terms, the one with the greater number stands above
packed_above : (x y : meant.Triple) → Terms x → Terms y → packed y < packed x → is_above (in_code x) (in_code y) ≡ true
unfolding is_above terms
packed_above x y tx ty less = grind (arith, nat_tests, tx, ty)

-- a place, and the eight bytes of the record before it; 0 where there is none
pub data Behind (s : List ℕ) : ℕ → ℕ → Type 0 where
  none : Behind s 0 0
  one : {at : ℕ} → Holds s at → Behind s (at + triple_width) (number64 s at)

behind_order : {s : List ℕ} {at before : ℕ} → Behind s at before → Holds s at → before < number64 s at →
    is_in_order s at (in_code (triple_of s at)) ≡ true
unfolding is_in_order
behind_order none h less = refl
behind_order (one {at = at} b) h less =
    let after : triple_width ≤ at + triple_width = omega arith in
    let back : at + triple_width - triple_width ≡ at = omega arith in
    simp (le-ltb _ _ after, back) (packed_above _ _ h.terms b.terms (rw (← h.eight, ← b.eight) less))

-- and above the record before, it is read as a triple.
pub plain_read : {s : List ℕ} {at before : ℕ} → at + triple_width ≤ length s → at < triples * triple_width →
    Behind s at before → Holds s at → before < number64 s at → site_record_at s at ≡ Ok (Some (in_code (triple_of s at)))
plain_read {s} {at} fits few b h less =
    read_whole s at h.kind (record { fits = fits; few = few; terms = terms_pass _ h.terms; order = behind_order b h less })
