-- A good site, a checked rule and its links are what the sweeps stand on.
-- The check of the rule has seen that each record may sit where it does.
use Prim.Native.Nat.{ℕ, ◌<◌}
use mathlib.Core.Path.{sym}
use mathlib.Core.Logic.{◌≢◌}
use mathlib.Core.List.{List}
use native.Mathlib.Omega.{arith}
use lib.ListN.{get_or}
use Rattle.std.specs.Prelude.{Ok}
use Rattle.meaning.specs.Limits.{terms}
use Rattle.meaning.specs.Expression.{operands}
use Rattle.meaning.specs.Move.{Axis}
use Rattle.records.specs.declared.Label.{Label}
use Rattle.records.specs.declared.Label.TheVariants.{Any, Term, Test}
use Rattle.records.specs.declared.Record.{Record}
use Rattle.records.specs.declared.Record.TheVariants.{Step, Sequence, Choice, Star}
use Rattle.records.specs.declared.rule.RuleRead.{RuleRead}
use Rattle.records.specs.Sites.{Accepted}
use Rattle.records.specs.Rules.{axis_meant, labelled, rec_of, record_at, named, term_of, CheckedRule}
use Rattle.records.proofs.Checked.{rule_leaves, rule_placed, rule_ends}
use Rattle.fewest.specs.Frame.{Links}
use Rattle.fewest.specs.LinksOf.{LinksOf}
use Rattle.fewest.specs.Work.{Tests, Sits, Ready}
use Rattle.fewest.proofs.Operands.{has_operand}

-- a label within the limits sits at a record before which stands what it takes
tests : (l : Label) (a : Axis) (r : ℕ) → named l < terms → (operands (labelled a l) ≢ 0 → 0 < r) → Tests l r
tests Any a r term some = tt
tests (Term n) a r term some = term
tests Test a r term some = some (λ h. omega arith)

-- so does a record
sits : (x : Record) (r : ℕ) → term_of x < terms → (operands (rec_of x) ≢ 0 → 0 < r) → Sits x r
sits (Step x) r term some = tests x.label (axis_meant x.axis) r term some
sits Sequence r term some = tt
sits Choice r term some = some (λ h. omega arith)
sits Star r term some = some (λ h. omega arith)

-- The sweeps may begin.
pub ready : {site rule : List ℕ} {n : ℕ} {x : RuleRead} {L : Links} → Accepted site n → CheckedRule rule (Ok x) →
    LinksOf rule x.count L → Ready site n rule x.starts x.count L.up L.role L.first
ready {rule = rule} {x = x} good checked made =
    let (leaves, long, few) = rule_leaves checked.answer in record {
      good = good;
      climbs = made.climbs;
      counted = long;
      few = few;
      inside = made.inside;
      firsts = made.firsts;
      reads = λ r h. sym (rule_placed checked.answer checked.starts r h).1;
      sits = λ r h.
          let (placed, here) = rule_placed checked.answer checked.starts r h in
          sits (record_at rule (get_or x.starts r 0)) r placed.term (has_operand _ (rule_ends checked.answer r h) here);
    }
