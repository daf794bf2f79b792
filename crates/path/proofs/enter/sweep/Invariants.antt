-- `path::enter::sweep` meets its contract. The loop's invariant: the records from `r` on have been looked at.
use Rattle.records.specs.Rules.{records_of}
use Rattle.path.proofs.Sweeping.{Sweeping}
use Rattle.path.proofs.enter.sweep.Given as goal

abbrev pub invariant-loop-r : goal.invariant-loop-r
invariant-loop-r l =
    Sweeping l.links.up l.links.role (records_of l.rule.bytes.now) l.links.first l.word l.fn.after l.initial.shut l.shut l.initial.changed l.changed l.r
