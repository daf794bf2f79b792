-- Reading one record of a rule: what is read is whole and within document 01's limits, and the end is past the last byte.
-- The tests of `rule_record_at` are turned into facts here, and nowhere else.
use Prim.Native.Nat.{ℕ, ◌+◌, ◌-◌, ◌≤◌, ◌<◌}
use mathlib.Core.Path.{◌≡◌, refl, sym, ap}
use mathlib.Core.Logic.{◌≢◌}
use mathlib.Core.Bool.{Bool, true, false, cond}
use mathlib.Core.List.{List}
use native.Mathlib.Omega.{arith}
use lib.ListN.{length, get_or}
use lib.Dec.{ltb, leb, eqb}
use borrow.Author.Tests.{leb-true, leb-false, ltb-false, eqb-false, le-leb}
use Rattle.meaning.specs.Limits.{terms, records}
use Rattle.meaning.specs.Expression.{operands}
use Rattle.records.specs.declared.Record.{Record}
use Rattle.records.specs.declared.Refusal.{Refusal}
use Rattle.records.specs.Rules.{last_axis, rec_of, length_of, record_at, axis_at, term_of, RuleFound, judged, rule_record_at}
use Rattle.std.proofs.lemmas.Bool.Decides.{nat_tests}
use Rattle.std.specs.Prelude.{Some, None, Ok, Err}

-- a record that is read, and the place of the next
pub record Good (s : List ℕ) (at count height : ℕ) (r : Record) (on : ℕ) : Type 0 where
  pub below : at < length s
  pub room : count < records
  pub decoded : r ≡ record_at s at
  pub next : on ≡ at + length_of (get_or s at 0)
  pub further : at < on
  pub whole : on ≤ length s
  pub axis : axis_at s at ≤ last_axis
  pub term : term_of r < terms
  pub enough : operands (rec_of r) ≤ height

-- the longest record has this many bytes
abbrev pub longest : ℕ
longest = 4

-- No record is longer.
pub length-longest : (kind : ℕ) → length_of kind ≤ longest
unfolding length_of
length-longest kind = grind (arith, nat_tests)

-- where a test's answer is not the outcome, the test has failed
passed : (t : Bool) {x y z : RuleFound} → x ≢ z → cond t x y ≡ z → (t ≡ false) × (y ≡ z)
passed true other e = absurd (other e)
passed false other e = (refl, e)

module _ {z : RuleFound} (fine : (f : Refusal) → Err f ≢ z) where
  judged_good : (r : Record) (axis at on height : ℕ) → judged r axis at on height ≡ z →
      (axis ≤ last_axis) × (term_of r < terms) × (operands (rec_of r) ≤ height) × (Ok (Some (r, on)) ≡ z)
  unfolding judged
  judged_good r number at on height e =
      let axis = passed (ltb last_axis number) (fine _) e in
      let term = passed (leb terms (term_of r)) (fine _) axis.1 in
      let enough = passed (ltb height (operands (rec_of r))) (fine _) term.1 in
      (ltb-false _ _ axis.0, leb-false _ _ term.0, ltb-false _ _ enough.0, enough.1)

  -- what is found before the end and not refused is a good record
  found_good : (s : List ℕ) (at count height : ℕ) → leb (length s) at ≡ false → rule_record_at s at count height ≡ z →
      let on = at + length_of (get_or s at 0) in Good s at count height (record_at s at) on × (Ok (Some (record_at s at, on)) ≡ z)
  unfolding rule_record_at
  found_good s at count height before e =
      let room = passed (leb records count) (fine _) (rw before at e) in
      let kind = passed (eqb (length_of (get_or s at 0)) 0) (fine _) room.1 in
      let whole = passed (ltb (length s - at) (length_of (get_or s at 0))) (fine _) kind.1 in
      let good = judged_good (record_at s at) (axis_at s at) at (at + length_of (get_or s at 0)) height whole.1 in
      let below : at < length s = leb-false _ _ before in
      let known : length_of (get_or s at 0) ≢ 0 = eqb-false _ _ kind.0 in
      let fits : length_of (get_or s at 0) ≤ length s - at = ltb-false _ _ whole.0 in (
        record {
          below = below;
          room = leb-false _ _ room.0;
          decoded = refl;
          next = refl;
          further = omega arith;
          whole = omega arith;
          axis = good.0;
          term = good.1;
          enough = good.2;
        },
        good.3,
      )

-- the three outcomes are different
not_end : {r : Record} {on : ℕ} → ◌≢◌ {A = RuleFound} (Ok None) (Ok (Some (r, on)))
not_end e = cc

not_refused : {r : Record} {on : ℕ} (f : Refusal) → ◌≢◌ {A = RuleFound} (Err f) (Ok (Some (r, on)))
not_refused f e = cc

end_fine : (f : Refusal) → ◌≢◌ {A = RuleFound} (Err f) (Ok None)
end_fine f e = cc

-- What is known of a record that is read.
pub read_good : {r : Record} {on : ℕ} (s : List ℕ) (at count height : ℕ) → rule_record_at s at count height ≡ Ok (Some (r, on)) →
    Good s at count height r on
unfolding rule_record_at
read_good {r} {on} s at count height e =
    let good = found_good not_refused s at count height (passed (leb (length s) at) not_end e).0 e in
    let both : ◌≡◌ {A = Record × ℕ} (record_at s at, at + length_of (get_or s at 0)) (r, on) = cc good.1 in
    let same : record_at s at ≡ r = ap (λ (p : Record × ℕ). p.0) both in
    let next : at + length_of (get_or s at 0) ≡ on = ap (λ (p : Record × ℕ). p.1) both in
    rw (same, next) at good.0

-- Past the last byte is the end,
pub past_end : (s : List ℕ) (at count height : ℕ) → length s ≤ at → rule_record_at s at count height ≡ Ok None
unfolding rule_record_at
past_end s at count height h = simp (le-leb _ _ h)

-- and nowhere else.
pub end_past : (s : List ℕ) (at count height : ℕ) → rule_record_at s at count height ≡ Ok None → length s ≤ at
end_past s at count height e = go (leb (length s) at) refl
  where
    go : (t : Bool) → leb (length s) at ≡ t → length s ≤ at
    go true h = leb-true _ _ h
    go false h = absurd (not_end (sym (found_good end_fine s at count height h e).1))
