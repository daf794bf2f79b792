-- `fewest::pairs::get` meets its contract, by the first law of Decoded.
use native.Mathlib.Omega.{arith}
use Rattle.fewest.proofs.Decoded.{pairs_at}
use Rattle.fewest.proofs.pairs.get.Goals as goal

pub returns : goal.returns
returns c = (omega (arith, pairs_at c.args.table.now _ c.requires), omega arith)
