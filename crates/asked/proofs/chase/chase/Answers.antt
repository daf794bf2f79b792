use Rattle.meaning.specs.Fewest.{anywhere}
use Rattle.fewest.proofs.Keeping.{threads_kept}
use Rattle.asked.proofs.Marking.{marks_on_bits}
use Rattle.asked.proofs.Chasing.{chased_none, chased_then}
use Rattle.asked.proofs.chase.chase.Goals as goal

pub loop-r-init : goal.loop-r-init
loop-r-init c = chased_none

pub ask_at-requires : goal.ask_at-requires
ask_at-requires c =
    let (bits, _, threads) = c.requires in
    let (row, small, _) = c.in-Some.ensures in
    let chased = c.loop-r.invariant in
    (marks_on_bits (chased.reached anywhere) bits, row, small, threads_kept c.args.task.now.site.accepted chased.below threads)

pub loop-r-preserved : goal.loop-r-preserved
loop-r-preserved c = chased_then c.loop-r.invariant c.ask_at.ensures.0
