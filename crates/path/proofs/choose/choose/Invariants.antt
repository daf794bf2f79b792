-- `path::choose::choose` meets its contract. The loop's invariant: the records before `r` offer nothing.
use Prim.Native.Nat.{ℕ, ◌<◌}
use Rattle.records.specs.Rules.{records_of}
use Rattle.fewest.specs.Pairs.{pairs}
use Rattle.fewest.specs.Tasks.{framed}
use Rattle.path.proofs.Choosing.{Barren}
use Rattle.path.proofs.choose.choose.Given as goal

abbrev pub invariant-loop-r : goal.invariant-loop-r
invariant-loop-r l =
    (q : ℕ) → q < l.r → Barren (framed l.task) (pairs l.numbers) (records_of l.task.rule.bytes.now) l.shut l.t l.d q
