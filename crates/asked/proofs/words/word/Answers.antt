-- `asked::words::word` meets its contract: four bytes, the lowest first.
use native.Mathlib.Omega.{arith}
use Rattle.asked.proofs.WordBits.{word_four}
use Rattle.asked.proofs.words.word.Goals as goal

pub returns : goal.returns
returns c = omega (arith, word_four c.args.asked.now c.args.at)
