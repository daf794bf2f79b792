-- `fewest::sweep::sweep_row` meets its contract: the row is nowhere above the other, or each turn sees one place of it.
use Rattle.fewest.specs.Pairs.{pairs}
use Rattle.fewest.specs.Frame.{Frame}
use Rattle.fewest.specs.Offer.{copying, Lowers}
use Rattle.fewest.specs.Sweep.{sum}
use Rattle.fewest.specs.Work.{QuietAt}
use Rattle.fewest.proofs.Loops.{Seen}
use Rattle.fewest.proofs.sweep.sweep_row.Given as goal

abbrev pub invariant-loop-t : goal.invariant-loop-t
invariant-loop-t l =
    (F : Frame) → Seen sum (Lowers F (copying l.a) l.r) (QuietAt F (copying l.a) l.r) l.t (pairs l.initial.numbers) (pairs l.numbers) l.was l.changed
