-- `fewest::threads::first_from` meets its contract: the cell read is that of the threads along which the axis starts.
use native.Mathlib.Omega.{arith}
use Rattle.meaning.specs.Limits.{terms}
use Rattle.fewest.specs.Cells.{cells}
use Rattle.fewest.specs.Threads.{firsts_of}
use Rattle.fewest.proofs.Threading.{along_firsts, read_first}
use Rattle.fewest.proofs.threads.first_from.Goals as goal

pub overflow_add-firsts_by : goal.overflow_add-firsts_by
unfolding terms
overflow_add-firsts_by c = omega (arith, c.firsts_by.ensures.1)

pub returns : goal.returns
unfolding terms
returns c = λ b n threads h.
    let X = c.args.scratch.now in
    read_first (cells X) (firsts_of c.args.axis) (along_firsts b X c.args.axis threads) h (omega (arith, c.firsts_by.ensures.0)) c.cell.ensures.0
