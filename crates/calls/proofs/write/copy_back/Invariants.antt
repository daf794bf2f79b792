-- `calls::write::copy_back` meets its contract. The loop's invariant: the rows before `r` are copied.
use Rattle.fewest.specs.Pairs.{pairs}
use Rattle.calls.proofs.Copying.{RowsCopied}
use Rattle.calls.proofs.write.copy_back.Given as goal

abbrev pub invariant-loop-r : goal.invariant-loop-r
invariant-loop-r l = RowsCopied (pairs l.bytes) l.initial.numbers l.r l.numbers
