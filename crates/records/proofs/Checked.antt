-- A checked rule: its answer is the only one, its records leave one expression, and each stands at its place.
-- Here a rule's bytes meet the meaning: from these laws on, a caller has an expression and its records.
use Prim.Native.Nat.{ℕ, zero, suc, ◌+◌, ◌≤◌, ◌<◌}
use mathlib.Core.Path.{◌≡◌, refl, subst}
use mathlib.Core.List.{List, [], ◌∷◌, map}
use native.Mathlib.Omega.{arith}
use lib.ListN.{length, get_or, length-map}
use Rattle.meaning.specs.Limits.{terms, records}
use Rattle.meaning.specs.Expression.{starring, Leaves, all_read, one_more}
use Rattle.meaning.proofs.Postfix.{leaves_expression}
use Rattle.records.specs.declared.Record.{Record}
use Rattle.records.specs.declared.rule.RuleRead.{RuleRead}
use Rattle.std.specs.Prelude.{Result, Ok, Err}
use Rattle.records.specs.declared.Refusal.{Refusal}
use Rattle.records.specs.Rules.{last_axis, record_at, axis_at, term_of, RuleFound, rule_record_at, Reads, one, not_one, refused, read, RuleChecked, starts_from, starts_of, rec_at, records_of, Front, CheckedRule}
use Rattle.records.specs.First.{Ends}
use Rattle.records.proofs.Reading.{Good, read_good, end_past}
use Rattle.records.proofs.Starts.{starts_more, starts_end, starts_few, front_unique, front_record}
use Rattle.records.proofs.First.{ends_each}

-- Reading has one answer.
pub reads_unique : {s : List ℕ} {x : RuleFound} {count height : ℕ} {a b : Result ℕ Refusal} →
    Reads s x count height a → Reads s x count height b → a ≡ b
reads_unique (one h) (one h') = refl
reads_unique (one h) (not_one other) = absurd (other h)
reads_unique (not_one other) (one h) = absurd (other h)
reads_unique (not_one h) (not_one h') = refl
reads_unique refused refused = refl
reads_unique (read p) (read q) = reads_unique p q

-- Checking a rule has one result: two that its promise allows are equal.
pub rule_unique : {s : List ℕ} {a b : Result RuleRead Refusal} → CheckedRule s a → CheckedRule s b → a ≡ b
rule_unique {s} {a = Ok x} {b = Ok y} p q =
    let same : x.count ≡ y.count = cc (reads_unique p.answer q.answer) in
    let starts : x.starts ≡ y.starts = front_unique p.starts q.starts in
    λ i. Ok (record { count = same i; starts = starts i })
rule_unique {s} {a = Ok x} {b = Err g} p q = cc (reads_unique p.answer q.answer)
rule_unique {s} {a = Err f} {b = Ok y} p q = cc (reads_unique p.answer q.answer)
rule_unique {s} {a = Err f} {b = Err g} p q = cc (reads_unique p.answer q.answer)

-- what is known of each record of a checked rule, by its place
pub record Placed (s : List ℕ) (at : ℕ) : Type 0 where
  pub below : at < length s
  pub axis : axis_at s at ≤ last_axis
  pub term : term_of (record_at s at) < terms

placed : {s : List ℕ} {at count height on : ℕ} {r : Record} → Good s at count height r on → Placed s at
placed g = record { below = g.below; axis = g.axis; term = rw g.decoded at g.term }

-- every one of these places is the place of a record
data AllPlaced (s : List ℕ) : List ℕ → Type 0 where
  none : AllPlaced s []
  more : {at : ℕ} {places : List ℕ} → Placed s at → AllPlaced s places → AllPlaced s (at ∷ places)

-- the records from a place on, `count` records and `height` expressions being before it, where the rule has n
record Rest (s : List ℕ) (count height n : ℕ) (places : List ℕ) : Type 0 where
  leaves : Leaves height (map (rec_at s) places) 1
  long : n ≡ count + length places
  placed : AllPlaced s places

-- so it is on the way, with room for m more records
rest : {s : List ℕ} {x : RuleFound} {count height n : ℕ} → Reads s x count height (Ok n) →
    (at m : ℕ) → rule_record_at s at count height ≡ x → m + count ≡ records → Rest s count height n (starts_from m s at)
rest {s} {x} {count} {height} {n} (one h) at m e room =
    rw (starts_end m s at (end_past s at count height e))
    (record { leaves = subst (λ (k : ℕ). Leaves height [] k) h all_read; long = omega arith; placed = none })
rest {s} {x} {count} {height} {n} (read p) at zero e room =
    let good = read_good s at count height e in absurd (omega arith)
rest {s} {x} {count} {height} {n} (read {r = r} {on = on} p) at (suc m) e room =
    let good = read_good s at count height e in
    let tail = rest p on m refl (omega arith) in
    rw (starts_more m s at good.below, ← good.next)
    (record {
      leaves = rw (← good.decoded) (one_more good.enough tail.leaves);
      long = let h = tail.long in omega arith;
      placed = more (placed good) tail.placed;
    })

-- The records of a rule that is read leave one expression, and are as many as the answer says, within the limit.
pub rule_leaves : {s : List ℕ} {n : ℕ} → RuleChecked s (Ok n) →
    Leaves 0 (records_of s) 1 × (n ≡ length (records_of s)) × (n ≤ records)
rule_leaves {s} {n} p =
    let all = rest p 0 records refl (omega arith) in
    let long = all.long in
    (all.leaves, simp length-map (omega arith), omega (arith, starts_few records s 0))

placed_at : {s places : List ℕ} → AllPlaced s places → (k : ℕ) → k < length places → Placed s (get_or places k 0)
placed_at none k h = absurd (omega arith)
placed_at (more p all) zero h = p
placed_at (more p all) (suc k) h = placed_at all k (omega arith)

-- The array of a rule that is read leads to each record: it stands at its place, and decodes there to the record of that number.
pub rule_placed : {s starts : List ℕ} {n : ℕ} → RuleChecked s (Ok n) → Front (starts_of s) starts → (k : ℕ) → k < n →
    Placed s (get_or starts k 0) × (get_or (records_of s) k starring ≡ rec_at s (get_or starts k 0))
rule_placed {s} {n} p front k h =
    let all = rest p 0 records refl (omega arith) in
    let long = all.long in
    (rw (front.each k) (placed_at all.placed k (omega arith)), front_record s front k (rw (← (rule_leaves p).1) h))

-- Each record of a rule that is read ends an expression.
pub rule_ends : {s : List ℕ} {n : ℕ} → RuleChecked s (Ok n) → (k : ℕ) → k < n → Ends (records_of s) k
rule_ends p k h =
    let (leaves, long, few) = rule_leaves p in
    let (e, x) = leaves_expression leaves in
    ends_each x k (rw (← long) h)
