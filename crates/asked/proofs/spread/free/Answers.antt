-- `asked::spread::free` meets its contract: the words begin with a row, and the threads stand before it.
use Prim.Native.Nat.{◌/◌}
use native.Mathlib.Omega.{arith}
use Rattle.meaning.specs.Limits.{terms, triples, records}
use Rattle.asked.specs.Words.{marks_at}
use Rattle.asked.proofs.Beginning.{no_marks, threads_left}
use Rattle.asked.proofs.spread.free.Goals as goal

pub clear_rows-requires : goal.clear_rows-requires
unfolding records
clear_rows-requires c = omega arith

pub returns : goal.returns
unfolding terms triples
returns c = let cleared = c.clear_rows.ensures in (no_marks (marks_at / terms) cleared (omega arith), threads_left (marks_at / terms) cleared (omega arith))
