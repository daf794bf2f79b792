-- `asked::words::put_word` meets its contract: its bytes are spliced in.
use mathlib.Core.Path.{◌∙◌, ap}
use native.Mathlib.Omega.{arith}
use lib.ListN.{length}
use Rattle.asked.specs.Words.{size}
use Rattle.asked.proofs.Splicing.{spliced}
use Rattle.asked.proofs.WordBits.{put_done}
use Rattle.asked.proofs.words.put_word.Goals as goal

pub returns : goal.returns
returns c =
    let are = c.copy_from_slice.ensures.after ∙ c.to_le_bytes.ensures in
    put_done (omega arith) are (spliced c.args.at size c.args.asked.now _ (omega arith) (omega arith) (ap length are))
