-- `fewest::pairs::put` meets its contract, by the second law of Decoded.
use native.Mathlib.Omega.{arith}
use Rattle.fewest.proofs.Decoded.{pairs_set}
use Rattle.fewest.proofs.pairs.put.Goals as goal

pub returns : goal.returns
returns c = pairs_set c.args.table.now c.args.i _ _ c.requires.0 (rw c.to_be_bytes.ensures (omega arith))
