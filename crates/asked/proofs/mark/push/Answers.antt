-- `asked::mark::push` meets its contract: the byte stands between the threads and the words.
use native.Mathlib.Omega.{arith}
use Rattle.meaning.specs.Limits.{terms, triples}
use Rattle.asked.proofs.Serving.{byte_aside}
use Rattle.asked.proofs.mark.push.Goals as goal

pub returns-then-tail-le-MOST : goal.returns-then-tail-le-MOST
unfolding terms triples
returns-then-tail-le-MOST c = byte_aside _ _ _ (omega arith) (omega arith)
