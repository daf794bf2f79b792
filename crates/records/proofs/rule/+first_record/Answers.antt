-- What is required says that an expression ends at the record; so does it at the one inside, and at each operand of that.
use Prim.Native.Nat.{ℕ, ◌<◌, ◌-◌}
use mathlib.Core.Path.{◌≡◌, sym, ◌∙◌}
use native.Mathlib.Omega.{arith}
use lib.ListN.{length}
use Rattle.records.specs.Rules.{records_of}
use Rattle.records.specs.First.{own, of_two, taken, Ends}
use Rattle.records.proofs.Starts.{records_few}
use Rattle.records.proofs.First.{first_below, first_before, taken_read, operand, first_operand}
use Rattle.records.proofs.rule.+first_record.Goals as goal
use Rattle.records.proofs.rule.+first_record.Goals.{After-inner_record-inner, After-operands_of, Else-operands_of-eq0, After-first_record-second}

module _ (t : ℕ) where
  -- the record inside stands in the rule
  stands : (c : After-inner_record-inner t) → c.inner_record-inner.result < length (records_of c.args.rule.now)
  stands c = first_below c.inner_record-inner.ensures.0.ends.1

  -- how many operands it takes
  takes : (c : After-operands_of t) → taken (records_of c.args.rule.now) c.inner_record-inner.result ≡ c.operands_of.result
  takes c =
      taken_read _ c.requires.front (first_below c.inner_record-inner.ensures.0.ends.1) c.record_of.ensures c.operands_of.ensures

  -- the operand that ends just before it
  operand_before : (c : Else-operands_of-eq0 t) →
      let r = c.inner_record-inner.result in (0 < r) × Ends (records_of c.args.rule.now) (r - 1)
  operand_before c =
      operand c.inner_record-inner.ensures.0.ends.1
      (λ e. c.if-operands_of-eq0.false (sym (takes (goal.at.overflow_sub-inner t c).After-operands_of) ∙ e))

  -- the operand before that one
  operand_first : (c : After-first_record-second t) →
      let rs = records_of c.args.rule.now in
      let m = c.first_record-second.result in
      (taken rs c.inner_record-inner.result ≡ 2) × (0 < m) × Ends rs (m - 1)
  operand_first c =
      let inside = c.inner_record-inner.ensures in
      first_operand inside.0.ends.1
      (λ e. c.if-operands_of-eq0.false (sym (takes (goal.at.overflow_sub-second t c).After-operands_of) ∙ e))
      inside.1 c.first_record-second.ensures

pub record_of-requires : goal.record_of-requires
record_of-requires t c = omega (arith, stands t c, records_few c.args.rule.now)

pub returns-then-operands_of-eq0 : goal.returns-then-operands_of-eq0
returns-then-operands_of-eq0 t c =
    let at = goal.at.returns-then-operands_of-eq0 t c in
    c.inner_record-inner.ensures.0.same _
    (own (stands t at.After-inner_record-inner) (takes t at.After-operands_of ∙ c.if-operands_of-eq0.true))

pub overflow_sub-inner : goal.overflow_sub-inner
overflow_sub-inner t c = (operand_before t c).0

pub first_record-second-requires : goal.first_record-second-requires
first_record-second-requires t c =
    let b = operand_before t c in
    (omega (arith, b.0, c.inner_record-inner.ensures.0.before, c.decreases), (c.requires.front, b.1))

pub overflow_sub-second : goal.overflow_sub-second
overflow_sub-second t c = (operand_first t c).1

pub first_record-requires : goal.first_record-requires
first_record-requires t c =
    let f = operand_first t c in
    let b = operand_before t (goal.at.first_record-requires t c).Else-operands_of-eq0 in
    let falls = first_before c.first_record-second.ensures in
    (omega (arith, f.1, b.0, falls, c.inner_record-inner.ensures.0.before, c.decreases), (c.requires.front, f.2))

pub returns : goal.returns
returns t c =
    let at = goal.at.returns t c in
    let f = operand_first t at.After-first_record-second in
    c.inner_record-inner.ensures.0.same _
    (of_two c.first_record-second.result (stands t at.After-inner_record-inner) f.0 (operand_before t at.Else-operands_of-eq0).0
    c.first_record-second.ensures f.1 c.first_record.ensures)
