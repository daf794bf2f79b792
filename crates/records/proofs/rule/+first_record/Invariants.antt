-- The record number is the measure, and falls at each operand.
use Rattle.records.proofs.rule.+first_record.Given as goal

abbrev pub decreases-first_record : goal.decreases-first_record
decreases-first_record l = l.last
