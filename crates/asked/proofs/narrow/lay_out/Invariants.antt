-- `asked::narrow::lay_out` meets its contract: the bytes passed stand in the row, and the words, which are before it, are as they were.
use Prim.Native.Nat.{◌+◌, ◌*◌}
use Rattle.meaning.specs.Limits.{terms}
use Rattle.asked.specs.Words.{waits_at}
use Rattle.asked.specs.Narrow.{Written, byte}
use Rattle.asked.proofs.narrow.lay_out.Given as goal

abbrev pub invariant-loop-t : goal.invariant-loop-t
invariant-loop-t l = Written (waits_at + l.p * terms) l.t (byte l.initial.asked l.p) l.initial.asked l.asked
