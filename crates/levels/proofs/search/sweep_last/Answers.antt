-- `levels::search::sweep_last` meets its contract: an axis that takes triples goes by them, or by those with its name; self stays.
use Rattle.levels.proofs.Steps.{step_record, step_tests, axis_hinted}
use native.Mathlib.Omega.{arith}
use Rattle.levels.proofs.search.sweep_last.Goals as goal

pub sweep_thread-requires : goal.sweep_thread-requires
sweep_thread-requires c =
    let last = c.args.last.now in
    let named = rw c.in-Term.is at (step_tests last) in
    (step_record last, named, named)

pub returns-in-Term : goal.returns-in-Term
returns-in-Term c =
    axis_hinted c.args.last.now c.in-Some.is (omega arith) (rw c.in-Term.is c.sweep_thread.ensures.reached)
