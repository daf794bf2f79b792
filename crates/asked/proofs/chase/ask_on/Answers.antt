-- `asked::chase::ask_on` meets its contract: the works of each kind of record, in their order.
use native.Mathlib.Omega.{arith}
use Rattle.fewest.proofs.Keeping.{threads_kept}
use Rattle.asked.specs.Chase.{as_empty}
use Rattle.asked.proofs.OneMark.{set_keeps}
use Rattle.asked.proofs.Serving.{kept_then}
use Rattle.asked.proofs.ByMoves.{copy_asked}
use Rattle.asked.proofs.Chasing.{asked_step, asked_sequence, asked_choice, asked_star}
use Rattle.asked.proofs.chase.ask_on.Goals as goal

pub returns-in-Step : goal.returns-in-Step
returns-in-Step c = let (asked, kept) = c.ask_step.ensures in (λ g. asked_step _ c.in-Step.is (asked g), kept)

pub returns-in-Sequence : goal.returns-in-Sequence
returns-in-Sequence c =
    let (at, _, first) = c.requires in
    let one = rw c.only.ensures at c.mark.ensures in
    (λ g. asked_sequence _ c.in-Sequence.is (copy_asked first at.small at.marked one), one.kept)

pub returns-in-Choice : goal.returns-in-Choice
returns-in-Choice c =
    let (at, _, first) = c.requires in
    let row = at.row in
    let one = rw c.only-in-Choice.ensures at c.mark-in-Choice.ensures in
    let other = rw c.only-in-Choice-2.ensures at c.mark-in-Choice-2.ensures in (
      λ g. asked_choice _ c.in-Choice.is (copy_asked first at.small at.marked one)
          (copy_asked (omega arith) at.small (set_keeps one at.row at.small at.marked) other),
      kept_then one.kept other.kept,
    )

pub returns-in-Star : goal.returns-in-Star
returns-in-Star c =
    let at = c.requires.0 in
    let row = at.row in
    let one = rw c.only-in-Star.ensures at c.mark-in-Star.ensures in
    let (rest, more) = c.stay.ensures in (
      λ g. asked_star _ c.in-Star.is (copy_asked (omega arith) at.small at.marked one)
          (rest _ g _ (threads_kept c.args.task.now.site.accepted one.kept.below at.threads) tt as_empty),
      kept_then one.kept more,
    )
