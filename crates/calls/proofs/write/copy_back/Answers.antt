use native.Mathlib.Omega.{arith}
use Rattle.meaning.specs.Limits.{terms, records}
use Rattle.fewest.specs.Table.{Full}
use Rattle.calls.proofs.Copying.{rows_none, rows_start, rows_part, rows_more, rows_all}
use Rattle.calls.proofs.write.copy_back.Goals as goal

pub loop-r-init : goal.loop-r-init
unfolding Full terms records
loop-r-init c = rows_none c.args.bytes.now c.args.numbers.now c.told-bytes c.requires

pub slice_bounds-copy_row-start : goal.slice_bounds-copy_row-start
unfolding terms records
slice_bounds-copy_row-start c = rows_start c.loop-r.invariant c.loop-r-test.true

pub slice_bounds-copy_row-count : goal.slice_bounds-copy_row-count
unfolding terms records
slice_bounds-copy_row-count c = rows_start c.loop-r.invariant c.loop-r-test.true

pub copy_row-requires : goal.copy_row-requires
unfolding terms records
copy_row-requires c = (c.loop-r-test.true, rows_part c.loop-r.invariant c.loop-r-test.true)

pub loop-r-preserved : goal.loop-r-preserved
unfolding terms records
loop-r-preserved c = rows_more c.loop-r.invariant c.loop-r-test.true c.copy_row.ensures

pub returns : goal.returns
unfolding records
returns c = rows_all c.loop-r.invariant (omega arith)
