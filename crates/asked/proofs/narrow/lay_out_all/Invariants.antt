-- `asked::narrow::lay_out_all` meets its contract: the rows of the bytes passed are laid out, and the words are as they were.
use Rattle.asked.specs.Words.{waits_at}
use Rattle.asked.specs.Narrow.{RowsWritten, byte}
use Rattle.asked.proofs.narrow.lay_out_all.Given as goal

abbrev pub invariant-loop-p : goal.invariant-loop-p
invariant-loop-p l = RowsWritten waits_at l.p (byte l.initial.asked) l.initial.asked l.asked
