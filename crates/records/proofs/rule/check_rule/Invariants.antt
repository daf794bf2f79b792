-- `records::rule::check_rule` meets its contract: the loop keeps `Progress`, and the measure is what is left of the rule.
use Prim.Native.Nat.{◌-◌}
use lib.ListN.{length}
use Rattle.records.proofs.Progress.{Progress}
use Rattle.records.proofs.rule.check_rule.Given as goal

abbrev pub invariant-loop-record : goal.invariant-loop-record
invariant-loop-record l = Progress l.rule l.starts l.at l.count l.height

abbrev pub decreases-loop-record : goal.decreases-loop-record
decreases-loop-record l = length l.rule - l.at
