-- Checking a rule, on its way: none of it read, one record more, and the ways it ends.
-- `Progress` is the invariant of the loop of `check_rule`.
use Prim.Native.Nat.{ℕ, suc, ◌+◌, ◌-◌, ◌*◌, ◌≤◌}
use mathlib.Core.Path.{◌≡◌, ◌∙◌, ap}
use mathlib.Core.Logic.{◌≢◌}
use mathlib.Core.List.{List, [], ◌∷◌}
use native.Mathlib.Nat.{sub-zero}
use native.Mathlib.Omega.{arith}
use lib.ListN.{length, get_or, take, drop, set, length-drop}
use lib.Seq.{take_all, drop-drop}
use Rattle.meaning.specs.Limits.{records}
use Rattle.records.specs.declared.Record.{Record}
use Rattle.records.specs.declared.Reason.TheVariants.{NotOne}
use Rattle.records.specs.declared.Refusal.{Refusal}
use Rattle.std.specs.Prelude.{Some, Result, Ok, Err}
use Rattle.records.specs.Rules.{refusal, left, rule_record_at, Reads, one, not_one, refused, read, RuleChecked, starts_from, starts_of, Front, CheckedRule}
use Rattle.records.proofs.Reading.{longest, length-longest, read_good, past_end}
use Rattle.records.proofs.Starts.{starts_more, starts_end, front_more}

-- `count` records are read, their places stand in front of the array, and the answer from here on is the rule's
pub record Progress (s starts : List ℕ) (at count height : ℕ) : Type 0 where
  pub room : count ≤ records
  pub few : height ≤ count
  pub near : at ≤ count * longest
  pub answers : (a : Result ℕ Refusal) → Reads s (rule_record_at s at count height) count height a → RuleChecked s a
  pub front : Front (take count (starts_of s)) starts
  pub ahead : drop count (starts_of s) ≡ starts_from (records - count) s at

-- Before the first record.
pub progress_none : {s starts : List ℕ} → Front [] starts → Progress s starts 0 0 0
progress_none {s} {starts} f =
    record { room = omega arith; few = omega arith; near = omega arith; answers = λ a p. p; front = f; ahead = rw sub-zero }

-- One record more: its place goes into the array.
pub progress_more : {s starts : List ℕ} {at count height on : ℕ} {r : Record} → Progress s starts at count height →
    rule_record_at s at count height ≡ Ok (Some (r, on)) → Progress s (set starts count at) on (count + 1) (left height r)
progress_more {s} {starts} {at} {count} {height} {on} {r} p e =
    let good = read_good s at count height e in
    let before = p.room in
    let few = p.few in
    let near = p.near in
    let steps : records - count ≡ suc (records - (count + 1)) = omega (arith, good.room) in
    let ahead : drop count (starts_of s) ≡ at ∷ starts_from (records - (count + 1)) s on =
    p.ahead ∙ rw (steps, starts_more (records - (count + 1)) s at good.below, ← good.next) in
    record {
      room = omega (arith, good.room);
      few = omega (arith, good.enough);
      near = omega (arith, good.next, length-longest (get_or s at 0));
      answers = λ a q. p.answers a (rw e (read q));
      front = front_more (starts_of s) count p.front good.room ahead;
      ahead = rw (← drop-drop 1 count (starts_of s), ahead);
    }

-- A rule that is refused is checked.
pub refused_checked : {s : List ℕ} {f : Refusal} → RuleChecked s (Err f) → CheckedRule s (Err f)
refused_checked p = record { answer = p; starts = tt }

-- The end: one expression is left,
pub progress_one : {s starts : List ℕ} {at count height : ℕ} → Progress s starts at count height → length s ≤ at → height ≡ 1 →
    CheckedRule s (Ok (record { count = count; starts = starts }))
progress_one {s} {starts} {at} {count} {height} p past h =
    record {
      answer = p.answers (Ok count) (rw (past_end s at count height past) (one h));
      starts = rw (take_all count (starts_of s) all) at p.front;
    }
  where
    all : length (starts_of s) ≤ count
    all =
        let none : length (drop count (starts_of s)) ≡ 0 = ap length (p.ahead ∙ starts_end (records - count) s at past) in
        omega (arith, length-drop count (starts_of s))

-- or another number of them.
pub progress_not_one : {s starts : List ℕ} {at count height : ℕ} → Progress s starts at count height → length s ≤ at → height ≢ 1 →
    CheckedRule s (Err (refusal NotOne (length s)))
progress_not_one {s} {starts} {at} {count} {height} p past h =
    refused_checked (p.answers (Err (refusal NotOne (length s))) (rw (past_end s at count height past) (not_one h)))

-- A record is refused.
pub progress_refused : {s starts : List ℕ} {at count height : ℕ} {f : Refusal} → Progress s starts at count height →
    rule_record_at s at count height ≡ Err f → CheckedRule s (Err f)
progress_refused {f = f} p e = refused_checked (p.answers (Err f) (rw e refused))
