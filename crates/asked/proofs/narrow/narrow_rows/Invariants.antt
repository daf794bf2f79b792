-- `asked::narrow::narrow_rows` meets its contract: the rows passed have their bits, and what is behind them is as it was, the row of
-- bytes that is read next among it.
use Rattle.asked.specs.Narrow.{RowsOut}
use Rattle.asked.proofs.narrow.narrow_rows.Given as goal

abbrev pub invariant-loop-r : goal.invariant-loop-r
invariant-loop-r l = RowsOut l.r l.initial.asked l.asked
