use Rattle.std.proofs.Common.{sym}
use Rattle.meaning.specs.Limits.{none}
use Rattle.fewest.proofs.Walk.{walk_begins, walk_home, walk_held, walk_first, walk_up}
use Rattle.fewest.proofs.left.left.Goals as goal

pub loop-best-init : goal.loop-best-init
unfolding none
loop-best-init c = walk_begins c.requires.0

pub returns-in-Whole : goal.returns-in-Whole
returns-in-Whole c = rw (c.min.ensures, c.home.ensures) (walk_home c.loop-best.invariant (sym c.in-Whole.ensures))

pub returns-in-Test : goal.returns-in-Test
returns-in-Test c = walk_held c.loop-best.invariant (sym c.in-Test.ensures)

pub returns-in-First : goal.returns-in-First
returns-in-First c =
    let (read, top) = c.number.ensures in
    rw (c.min-in-First.ensures, read, c.above-above.ensures)
    (walk_first c.loop-best.invariant (sym c.in-First.ensures) (rw (read, c.above-above.ensures) at top))

pub loop-best-preserved : goal.loop-best-preserved
loop-best-preserved c =
    rw (c.min-best.ensures, c.number-in-Round.ensures.0, c.above-above.ensures)
    (walk_up c.loop-best.invariant c.args.ahead.now.climbs (sym c.in-Round.ensures))
