use mathlib.Core.Path.{◌≡◌, sym, ◌∙◌, ap}
use native.Mathlib.Omega.{arith}
use Rattle.std.proofs.Common.{Some, None, Ok}
use Rattle.std.proofs.lemmas.Result.{err_from_is_err_and}
use Rattle.meaning.specs.Limits.{records}
use Rattle.records.specs.Rules.{rule_record_at}
use Rattle.records.proofs.Reading.{Good, read_good, end_past}
use Rattle.records.proofs.Starts.{front_none}
use Rattle.records.proofs.Progress.{progress_none, progress_more, progress_one, progress_not_one, progress_refused}
use Rattle.records.proofs.rule.check_rule.Goals as goal
use Rattle.records.proofs.rule.check_rule.Goals.{In-Some, In_default}

-- what was found is a record,
found_here : (c : In-Some) → let p = c.loop-record in
    rule_record_at c.args.rule.now p.at p.count p.height ≡ Ok (Some (c.in-Some.record, c.in-Some.next))
found_here c = sym c.rule_record.ensures ∙ c.in_ok-record.was ∙ ap Ok c.in-Some.is

-- so it is a good one;
good : (c : In-Some) → let p = c.loop-record in Good c.args.rule.now p.at p.count p.height c.in-Some.record c.in-Some.next
good c = read_good _ _ _ _ (found_here c)

-- or it is the end
past : (c : In_default) → let p = c.loop-record in rule_record_at c.args.rule.now p.at p.count p.height ≡ Ok None
past c = sym c.rule_record.ensures ∙ c.in_ok-record.was ∙ ap Ok c.in_default.is

pub loop-record-init : goal.loop-record-init
unfolding records
loop-record-init c = progress_none front_none

pub returns-in_err-record : goal.returns-in_err-record
returns-in_err-record c =
    let p = err_from_is_err_and c.from_residual.result c.from_residual.ensures.1 in
    rw (p.1, p.2) (progress_refused c.loop-record.invariant (sym c.rule_record.ensures ∙ c.in_err-record.was))

pub overflow_cast-starts : goal.overflow_cast-starts
unfolding records
overflow_cast-starts c = omega (arith, good c)

pub bounds-starts-count : goal.bounds-starts-count
unfolding records
bounds-starts-count c = (good c).room

pub overflow_add-count : goal.overflow_add-count
unfolding records
overflow_add-count c = omega (arith, good c)

pub overflow_sub-height : goal.overflow_sub-height
overflow_sub-height c = rw c.operands_of.ensures (good (goal.at.overflow_sub-height c).In-Some).enough

pub overflow_add-height : goal.overflow_add-height
unfolding records
overflow_add-height c = omega (arith, good (goal.at.overflow_add-height c).In-Some)

pub loop-record-smaller : goal.loop-record-smaller
loop-record-smaller c = omega (arith, good (goal.at.loop-record-smaller c).In-Some)

pub loop-record-preserved : goal.loop-record-preserved
loop-record-preserved c =
    rw c.operands_of.ensures (progress_more c.loop-record.invariant (found_here (goal.at.loop-record-preserved c).In-Some))

pub returns-then-height-ne1 : goal.returns-then-height-ne1
returns-then-height-ne1 c =
    rw c.at.ensures
    (progress_not_one c.loop-record.invariant (end_past _ _ _ _ (past (goal.at.returns-then-height-ne1 c).In_default)) c.if-height-ne1.true)

pub returns : goal.returns
returns c =
    progress_one c.loop-record.invariant (end_past _ _ _ _ (past (goal.at.returns c).In_default)) c.if-height-ne1.false
