-- `fewest::sweep::sweep_record` meets its contract: the works of each kind of record, in their order.
use Rattle.fewest.proofs.ByRecords.{by_step, by_sequence, by_choice}
use Rattle.fewest.proofs.Sweeps.{lowers_chain}
use Rattle.fewest.proofs.sweep.sweep_record.Goals as goal

pub returns-in-Step : goal.returns-in-Step
returns-in-Step c =
    by_step (λ w. lowers_chain) _ _ c.in-Step.is
    c.sweep_step.ensures

pub returns-in-Sequence : goal.returns-in-Sequence
returns-in-Sequence c = by_sequence (λ w. lowers_chain) _ _ c.in-Sequence.is (c.sweep_row.ensures _)

pub returns-in-Choice : goal.returns-in-Choice
returns-in-Choice c =
    by_choice (λ w. lowers_chain) _ _ c.in-Choice.is
    (c.sweep_row-one.ensures _) (c.sweep_row-in-Choice.ensures _)

pub returns-in-Star : goal.returns-in-Star
returns-in-Star c =
    rw c.in-Star.is
    (c.sweep_star.ensures _ c.requires.3)
