-- `levels::search::column` meets its contract: the works of each kind of record, in their order; a step has none here.
use Rattle.fewest.specs.Work.{idle}
use Rattle.fewest.proofs.Rowwise.{row_looked}
use Rattle.levels.proofs.Hints.{sequence_worked, choice_worked}
use Rattle.levels.proofs.search.column.Goals as goal

pub returns-in-Step : goal.returns-in-Step
returns-in-Step c = idle

pub returns-in-Sequence : goal.returns-in-Sequence
returns-in-Sequence c =
    sequence_worked _ _ c.in-Sequence.is
    (row_looked c.args.at.inside c.number-v.ensures.0 c.lower.ensures).reached

pub returns-in-Choice : goal.returns-in-Choice
returns-in-Choice c =
    let inside = c.args.at.inside in
    choice_worked _ _ c.in-Choice.is
    (row_looked inside c.number-v-in-Choice.ensures.0 c.lower-one.ensures).reached
    (row_looked inside c.number-w.ensures.0 c.lower-in-Choice.ensures).reached
