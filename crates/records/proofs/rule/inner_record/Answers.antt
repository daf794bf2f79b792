use mathlib.Core.Path.{◌≡◌, sym, ◌∙◌}
use native.Mathlib.Omega.{arith}
use Rattle.records.specs.Rules.{records_of}
use Rattle.records.specs.First.{taken}
use Rattle.records.proofs.Starts.{records_few}
use Rattle.records.proofs.First.{first_below, taken_read, inside_more}
use Rattle.records.proofs.rule.inner_record.Goals as goal
use Rattle.records.proofs.rule.inner_record.Goals.{After-operands_of}

-- how many operands the record takes
takes : (c : After-operands_of) → taken (records_of c.args.rule.now) c.loop-r.r ≡ c.operands_of.result
takes c =
    taken_read _ c.requires.front (first_below c.loop-r.invariant.ends.1) c.record_of.ensures c.operands_of.ensures

pub record_of-requires : goal.record_of-requires
record_of-requires c =
    omega (arith, first_below c.loop-r.invariant.ends.1, records_few c.args.rule.now)

pub overflow_sub-r : goal.overflow_sub-r
overflow_sub-r c = (inside_more c.loop-r.invariant (takes (goal.at.overflow_sub-r c).After-operands_of ∙ c.loop-r-test.true)).0

pub loop-r-smaller : goal.loop-r-smaller
loop-r-smaller c = omega (arith, overflow_sub-r c)

pub loop-r-preserved : goal.loop-r-preserved
loop-r-preserved c = (inside_more c.loop-r.invariant (takes (goal.at.loop-r-preserved c).After-operands_of ∙ c.loop-r-test.true)).1

pub returns : goal.returns
returns c = (c.loop-r.invariant, λ e. c.loop-r-test.false (sym (takes (goal.at.returns c).After-operands_of) ∙ e))
