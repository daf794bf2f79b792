-- `path::choose::of_record` meets its contract: a record that is shut offers nothing, nor does one that is no step.
use mathlib.Core.Path.{◌≡◌, sym, ap, ◌∙◌}
use mathlib.Core.Logic.{inl, inr}
use native.Mathlib.Omega.{arith}
use lib.ListN.{get_or}
use Rattle.meaning.specs.Expression.{joining, choosing, starring}
use Rattle.records.specs.Rules.{rec_of, records_of}
use Rattle.path.proofs.Carrying.{carries_by}
use Rattle.path.proofs.Choosing.{of_open, of_shut, of_none}
use Rattle.path.proofs.choose.of_record.Goals as goal
use Rattle.path.proofs.choose.of_record.Goals.{After-record_of}

-- the record that was read is the rule's
read : (c : After-record_of) → rec_of c.record_of.result ≡ get_or (records_of c.args.task.now.rule.bytes.now) c.args.r starring
read c =
    ap rec_of c.record_of.ensures ∙ c.args.task.now.ready.reads _ c.requires.1

pub returns-then-shut-r : goal.returns-then-shut-r
returns-then-shut-r c = of_shut c.if-shut-r.true

pub returns-in-Step : goal.returns-in-Step
returns-in-Step c =
    of_open (record { inside = omega (arith, c.args.task.now.ready.few); clear = c.if-shut-r.false })
    (c.by_step.ensures _ (sym (read (goal.at.returns-in-Step c).After-record_of) ∙ ap rec_of c.in-Step.is))

pub returns-in-Sequence : goal.returns-in-Sequence
returns-in-Sequence c =
    let same = sym (read (goal.at.returns-in-Sequence c).After-record_of) in
    of_none (λ k u. elim c.in-Sequence.is [
      | inl e ↦ carries_by joining (same ∙ ap rec_of e)
      | inr e ↦ elim e [
        | inl e ↦ carries_by choosing (same ∙ ap rec_of e)
        | inr e ↦ carries_by starring (same ∙ ap rec_of e)
      ]
    ])
