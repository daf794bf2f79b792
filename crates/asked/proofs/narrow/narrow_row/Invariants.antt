-- `asked::narrow::narrow_row` meets its contract: the entries passed have their bits, and the bytes that are left are as they were.
use Prim.Native.Nat.{◌*◌}
use Rattle.meaning.specs.Limits.{terms}
use Rattle.asked.specs.Narrow.{Written, held}
use Rattle.asked.proofs.narrow.narrow_row.Given as goal

abbrev pub invariant-loop-t : goal.invariant-loop-t
invariant-loop-t l = Written (l.r * terms) l.t (held l.initial.asked l.r) l.initial.asked l.asked
