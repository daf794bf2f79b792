-- `path::enter::enter` meets its contract. The loop's invariant: what is open can be entered. Its measure is how many are shut.
use Rattle.records.specs.Rules.{records_of}
use Rattle.path.specs.Flags.{Keeps, closed}
use Rattle.path.proofs.enter.enter.Given as goal

abbrev pub invariant-loop-after : goal.invariant-loop-after
invariant-loop-after l =
    Keeps l.links.up l.links.role (records_of l.rule.bytes.now) l.links.first l.word l.after l.initial.shut l.shut

abbrev pub decreases-loop-after : goal.decreases-loop-after
decreases-loop-after l = closed l.shut
