-- `fewest::cells::put_cell` meets its contract: the two bytes that it stores are the value.
use native.Mathlib.Omega.{arith}
use Rattle.fewest.proofs.Decoded.{cells_set}
use Rattle.fewest.proofs.cells.put_cell.Goals as goal

pub returns : goal.returns
returns c = cells_set c.args.scratch.now c.args.i _ _ c.requires.0 (rw c.to_le_bytes.ensures (omega arith))
