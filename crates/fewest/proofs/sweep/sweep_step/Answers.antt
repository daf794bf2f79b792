-- `fewest::sweep::sweep_step` meets its contract: an axis goes by the triples with its name, or by those to the end where it finishes
-- the rule, or is quiet, or goes by all; self stays.
use Rattle.records.specs.Rules.{axis_of}
use Rattle.fewest.specs.Threads.{middle_along}
use Rattle.fewest.proofs.ByTriples.{axis_takes}
use Rattle.fewest.proofs.Entries.{view_top}
use Rattle.fewest.proofs.Naming.{name_others, end_others}
use Rattle.fewest.proofs.Sweeps.{lowers_chain, swept_none}
use Rattle.fewest.proofs.sweep.sweep_step.Goals as goal

pub returns-in-Term : goal.returns-in-Term
returns-in-Term c =
    rw (c.in-Some.is, c.in-Term.is)
    (c.sweep_thread.ensures.swept c.requires.2 (middle_along (axis_of c.in-Some.axis)) c.by_middle-by.ensures
    (name_others _ _ _ _ _ _ _ _ (axis_takes c.in-Some.axis)))

pub returns-in-Some-only_end : goal.returns-in-Some-only_end
returns-in-Some-only_end c =
    let (term, ends) = c.in-Some-only_end.ensures in
    let (whole, only) = ends term in
    rw c.in-Some.is
    (c.sweep_thread-in-Some-only_end.ensures.swept c.requires.2 _ c.inverse-back.ensures
    (end_others _ _ _ _ c.args.step.label _ _ (axis_takes c.in-Some.axis) whole only (λ t. view_top c.args.numbers.now c.fits-numbers _ t)))

pub returns-then-step_quiet : goal.returns-then-step_quiet
returns-then-step_quiet c = rw c.in-Some.is (swept_none lowers_chain (c.step_quiet.ensures c.if-step_quiet.true))
