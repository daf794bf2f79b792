-- What it shows that a place of a site holds a triple, or that the site ends there.
-- Nothing else opens `site_record_at` but the proof of the code that decides it.
use Prim.Native.Nat.{ℕ, ◌+◌, ◌*◌, ◌-◌, ◌<◌, ◌≤◌}
use native.Mathlib.Omega.{arith}
use mathlib.Core.Path.{◌≡◌, sym}
use mathlib.Core.List.{List}
use mathlib.Core.Bool.{true, not, and-eq-true_iff}
use lib.ListN.{length, get_or}
use lib.Dec.{ltb, leb, eqb}
use borrow.Author.Tests.{ltb-true, ltb-false, leb-true, leb-false, eqb-true, not-false, lt-ltb, le-ltb, lt-leb, eq-eqb}
use Rattle.meaning.specs.Limits.{terms, triples}
use Rattle.meaning.specs.Site as meant
use Rattle.records.specs.Sites.{triple_kind, triple_width, triple_of, in_code, all_terms, is_above, is_in_order, SiteFound, site_record_at, Above, by_subject, by_predicate, by_object}
use Rattle.records.specs.declared.Triple.{Triple}
use Rattle.records.specs.declared.Refusal.{Refusal}
use Rattle.std.specs.Prelude.{Option, Some, None, Ok, Err, is_some}
use Rattle.records.proofs.Tests.{by_test}

-- a whole record that no test refuses
pub record Whole (s : List ℕ) (at : ℕ) : Type 0 where
  pub fits : at + triple_width ≤ length s
  pub few : at < triples * triple_width
  pub terms : all_terms (in_code (triple_of s at)) ≡ true
  pub order : is_in_order s at (in_code (triple_of s at)) ≡ true

-- what the tests show, whatever the refusals are
data Outcome (s : List ℕ) (at : ℕ) : SiteFound → Type 0 where
  over : length s ≤ at → Outcome s at (Ok None)
  refused : {x : Refusal} → Outcome s at (Err x)
  read : Whole s at → Outcome s at (Ok (Some (in_code (triple_of s at))))

outcome : (s : List ℕ) (at : ℕ) → Outcome s at (site_record_at s at)
unfolding site_record_at
outcome s at =
    by_test (Outcome s at) (leb (length s) at) (λ e. over (leb-true _ _ e)) λ e.
    by_test (Outcome s at) (leb (triples * triple_width) at) (λ l. refused) λ l.
    by_test (Outcome s at) (not (eqb (get_or s at 0) triple_kind)) (λ k. refused) λ k.
    by_test (Outcome s at) (ltb (length s - at) triple_width) (λ u. refused) λ u.
    by_test (Outcome s at) (not (all_terms (in_code (triple_of s at)))) (λ t. refused) λ t.
    by_test (Outcome s at) (not (is_in_order s at (in_code (triple_of s at)))) (λ o. refused) λ o.
    read (record {
      fits = omega (arith, leb-false (length s) at e, ltb-false (length s - at) triple_width u);
      few = leb-false _ _ l;
      terms = not-false _ t;
      order = not-false _ o;
    })

-- a triple is read from a whole record
pub whole : {x : Triple} (s : List ℕ) (at : ℕ) → site_record_at s at ≡ Ok (Some x) → Whole s at
whole s at e = go (rw e at (outcome s at))
  where
    go : {y : Triple} → Outcome s at (Ok (Some y)) → Whole s at
    go (read w) = w

-- of which every byte is there,
pub some_fits : (s : List ℕ) (at : ℕ) (x : Option Triple) → site_record_at s at ≡ Ok x → is_some x ≡ true → at + triple_width ≤ length s
some_fits s at (Some x) e some = (whole s at e).fits
some_fits s at None e none = absurd (cc)

-- and a whole record of a triple's kind is read
pub read_whole : (s : List ℕ) (at : ℕ) → get_or s at 0 ≡ triple_kind → Whole s at → site_record_at s at ≡ Ok (Some (in_code (triple_of s at)))
unfolding site_record_at
read_whole s at kind w =
    let fits = w.fits in
    let here : at < length s = omega arith in
    let room : triple_width ≤ length s - at = omega arith in
    simp (lt-leb _ _ here, lt-leb _ _ w.few, eq-eqb _ _ kind, le-ltb _ _ room, w.terms, w.order)

-- a site ends where no byte is left
pub ends : (s : List ℕ) (at : ℕ) → site_record_at s at ≡ Ok None → length s ≤ at
ends s at e = go (rw e at (outcome s at))
  where
    go : Outcome s at (Ok None) → length s ≤ at
    go (over h) = h

-- each number of a triple that passed is a term
pub record Terms (x : meant.Triple) : Type 0 where
  pub subject : x.subject < terms
  pub predicate : x.predicate < terms
  pub object : x.object < terms

pub terms_fit_all : (x : meant.Triple) → all_terms (in_code x) ≡ true → Terms x
unfolding all_terms
terms_fit_all x e =
    let (front, third) = (and-eq-true_iff _ _).0 e in
    let (first, second) = (and-eq-true_iff _ _).0 front in
    record { subject = ltb-true _ _ first; predicate = ltb-true _ _ second; object = ltb-true _ _ third }

-- and a triple of terms passes
pub terms_pass : (x : meant.Triple) → Terms x → all_terms (in_code x) ≡ true
unfolding all_terms
terms_pass x are = simp (lt-ltb _ _ are.subject, lt-ltb _ _ are.predicate, lt-ltb _ _ are.object)

-- what the test of the order says
pub above : (x y : meant.Triple) → is_above (in_code x) (in_code y) ≡ true → Above x y
unfolding is_above
above x y =
    by_test (λ t. t ≡ true → Above x y) (eqb x.subject y.subject)
    (λ s. by_test (λ t. t ≡ true → Above x y) (eqb x.predicate y.predicate)
    (λ p e. by_object (sym (eqb-true _ _ s)) (sym (eqb-true _ _ p)) (ltb-true _ _ e))
    (λ p e. by_predicate (sym (eqb-true _ _ s)) (ltb-true _ _ e)))
    (λ s e. by_subject (ltb-true _ _ e))

-- after the first record, a triple in order stands above that of the record before
pub in_order : (s : List ℕ) (at : ℕ) → is_in_order s (at + triple_width) (in_code (triple_of s (at + triple_width))) ≡ true → Above (triple_of s (at + triple_width)) (triple_of s at)
unfolding is_in_order
in_order s at e =
    let after : triple_width ≤ at + triple_width = omega arith in
    let back : at + triple_width - triple_width ≡ at = omega arith in
    above _ _ (simp (le-ltb _ _ after, back) at e)
