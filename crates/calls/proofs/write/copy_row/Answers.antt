use native.Mathlib.Omega.{arith}
use Rattle.meaning.specs.Limits.{terms, records, none}
use Rattle.fewest.specs.Table.{Full}
use Rattle.calls.proofs.Copying.{row_none, row_same, row_more, row_all}
use Rattle.calls.proofs.write.copy_row.Goals as goal

pub loop-t-init : goal.loop-t-init
unfolding Full terms records
loop-t-init c = row_none c.args.bytes.now c.args.row.now c.told-bytes c.requires.0 c.requires.1

pub number-requires : goal.number-requires
unfolding terms records
number-requires c = (omega (arith, c.requires.0), c.loop-t-test.true)

pub overflow_cast-row : goal.overflow_cast-row
unfolding none
overflow_cast-row c = omega (arith, c.number.ensures.1)

pub bounds-row-t : goal.bounds-row-t
unfolding terms
bounds-row-t c = omega (arith, row_same c.loop-t.invariant, c.loop-t.invariant.fits)

pub loop-t-preserved : goal.loop-t-preserved
unfolding terms
loop-t-preserved c = row_more c.loop-t.invariant c.loop-t-test.true c.number.ensures.0

pub returns : goal.returns
unfolding terms
returns c = row_all c.loop-t.invariant (omega arith)
