-- `records::rule::inner_record` meets its contract: each turn goes to the operand of a record that takes one.
-- The measure is the record number.
use Rattle.records.specs.Rules.{records_of}
use Rattle.records.specs.First.{Inside}
use Rattle.records.proofs.rule.inner_record.Given as goal

abbrev pub invariant-loop-r : goal.invariant-loop-r
invariant-loop-r l = Inside (records_of l.rule) l.last l.r

abbrev pub decreases-loop-r : goal.decreases-loop-r
decreases-loop-r l = l.r
