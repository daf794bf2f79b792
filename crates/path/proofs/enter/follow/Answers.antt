use mathlib.Core.Path.{sym}
use native.Mathlib.Omega.{arith}
use Rattle.path.proofs.Climbing.{climb_first, climb_up}
use Rattle.path.proofs.enter.follow.Goals as goal

pub returns-in-First : goal.returns-in-First
returns-in-First c =
    climb_first c.loop-shut.invariant (sym c.in-First.ensures) (rw c.above-above.ensures at c.mark.ensures)

pub loop-shut-preserved : goal.loop-shut-preserved
loop-shut-preserved c =
    let climb = c.loop-shut.invariant in
    let round = sym c.in-Round.ensures in
    let higher = c.requires.0.higher _ climb.inside (λ e. omega arith) in
    rw c.above-above.ensures (climb_up climb higher.1 round (rw c.above-above.ensures at c.mark-changed.ensures))
