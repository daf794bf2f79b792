-- `calls::write::copy_row` meets its contract. The loop's invariant: the places before `t` are copied.
use Rattle.fewest.specs.Pairs.{pairs}
use Rattle.calls.proofs.Copying.{RowCopied}
use Rattle.calls.proofs.write.copy_row.Given as goal

abbrev pub invariant-loop-t : goal.invariant-loop-t
invariant-loop-t l = RowCopied (pairs l.bytes) l.initial.row l.r l.t l.row
