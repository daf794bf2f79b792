-- `fewest::links::Links::link_record` meets its contract: the record that is read is the rule's, and each arm is a line of `standing`.
use mathlib.Core.Path.{◌≡◌, refl, sym, ap, ◌∙◌}
use Prim.Native.Nat.{ℕ}
use mathlib.Core.Logic.{⊎_elim}
use mathlib.Core.List.{List}
use native.Mathlib.Omega.{arith}
use lib.ListN.{get_or}
use Rattle.meaning.specs.Limits.{records}
use Rattle.meaning.specs.Expression.{testing, joining, choosing, starring, operands}
use Rattle.meaning.specs.Move.{any, only}
use Rattle.records.specs.Rules.{rec_of, labelled, axis_meant, record_at, starts_of, records_of, Front}
use Rattle.records.specs.First.{Ends}
use Rattle.records.specs.declared.Record.{Record}
use Rattle.records.proofs.First.{first_below}
use Rattle.records.proofs.Starts.{front_record}
use Rattle.fewest.specs.Frame.{as_test}
use Rattle.fewest.proofs.Operands.{ends_inside, has_operand, stood_none, stood_one, stood_join}
use Rattle.fewest.proofs.links.Links.link_record.Goals as goal
use Rattle.fewest.proofs.links.Links.link_record.Goals.{In-Choice, In-Sequence, In-Star, In-Step, In-Test}

-- record number r is the one that is read:
this : (rule : List ℕ) {starts : List ℕ} {r : ℕ} {x : Record} → Front (starts_of rule) starts × Ends (records_of rule) r →
    x ≡ record_at rule (get_or starts r 0) → get_or (records_of rule) r starring ≡ rec_of x
this rule p e = front_record rule p.0 _ (first_below p.1.1) ∙ ap rec_of (sym e)

-- a step with this label, or the record of the arm
a_step : (c : In-Step) → let a = c.args in let x = c.in-Step.step in get_or (records_of a.rule.now) a.r starring ≡ labelled (axis_meant x.axis) x.label
a_step c = this _ c.requires c.in-Step.ensures

a_test : (c : In-Test) → let a = c.args in get_or (records_of a.rule.now) a.r starring ≡ testing (axis_meant c.in-Step.step.axis)
a_test c = this _ c.requires c.in-Step.ensures ∙ ap (labelled (axis_meant _)) c.in-Test.is

a_sequence : (c : In-Sequence) → let a = c.args in get_or (records_of a.rule.now) a.r starring ≡ joining
a_sequence c = this _ c.requires c.in-Sequence.ensures

a_choice : (c : In-Choice) → let a = c.args in get_or (records_of a.rule.now) a.r starring ≡ choosing
a_choice c = this _ c.requires c.in-Choice.ensures

a_star : (c : In-Star) → let a = c.args in get_or (records_of a.rule.now) a.r starring ≡ starring
a_star c = this _ c.requires c.in-Star.ensures

pub record_of-requires : goal.record_of-requires
record_of-requires c = ends_inside _ c.requires.1

pub overflow_sub-r : goal.overflow_sub-r
overflow_sub-r c =
    has_operand (testing _) c.requires.1 (a_test (goal.at.overflow_sub-r c).In-Test) (λ h. omega arith)

pub overflow_cast-r : goal.overflow_cast-r
unfolding records
overflow_cast-r c =
    omega (arith, ends_inside _ c.requires.1)

pub stand-requires : goal.stand-requires
stand-requires c =
    omega (arith, ends_inside _ c.requires.1)

pub overflow_cast-r-in-Sequence : goal.overflow_cast-r-in-Sequence
unfolding records
overflow_cast-r-in-Sequence c = omega (arith, ends_inside _ c.requires.1)

pub link_join-requires : goal.link_join-requires
link_join-requires c =
    let p = c.requires in (p.0, p.1, ap operands (a_sequence (goal.at.link_join-requires c).In-Sequence))

pub link_join-requires-in-Choice : goal.link_join-requires-in-Choice
link_join-requires-in-Choice c =
    let p = c.requires in (p.0, p.1, ap operands (a_choice (goal.at.link_join-requires-in-Choice c).In-Choice))

pub overflow_sub-r-in-Star : goal.overflow_sub-r-in-Star
overflow_sub-r-in-Star c =
    has_operand starring c.requires.1 (a_star (goal.at.overflow_sub-r-in-Star c).In-Star) (λ h. omega arith)

pub overflow_cast-r-in-Star : goal.overflow_cast-r-in-Star
unfolding records
overflow_cast-r-in-Star c = omega (arith, ends_inside _ c.requires.1)

pub stand-requires-in-Star : goal.stand-requires-in-Star
stand-requires-in-Star c = omega (arith, ends_inside _ c.requires.1)

pub returns-in-Any : goal.returns-in-Any
returns-in-Any c =
    let here = a_step (goal.at.returns-in-Any c).In-Step in
    ⊎_elim (λ e. stood_none _ any (here ∙ ap (labelled (axis_meant _)) e)) (λ z. stood_none _ (only z.0) (here ∙ ap (labelled (axis_meant _)) z.1))
    c.in-Any.is

pub returns-in-Test : goal.returns-in-Test
returns-in-Test c = stood_one (testing _) as_test (a_test (goal.at.returns-in-Test c).In-Test) refl (λ L. refl) c.stand.ensures

pub returns-in-Sequence : goal.returns-in-Sequence
returns-in-Sequence c = stood_join joining (a_sequence (goal.at.returns-in-Sequence c).In-Sequence) (λ f. refl) c.link_join.ensures

pub entry-own-requires : goal.entry-own-requires
entry-own-requires c = ends_inside _ c.requires.1

pub returns-in-Choice : goal.returns-in-Choice
returns-in-Choice c =
    let j = rw (c.entry-own.ensures.0, c.entry-own.ensures.1) at c.link_join-in-Choice.ensures in
    stood_join choosing (a_choice (goal.at.returns-in-Choice c).In-Choice) (λ f. refl) j
