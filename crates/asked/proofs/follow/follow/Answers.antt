use mathlib.Core.Path.{sym}
use native.Mathlib.Omega.{arith}
use Rattle.asked.proofs.Climb.{climb_home, climb_held, climb_first, climb_up}
use Rattle.asked.proofs.follow.follow.Goals as goal

pub returns-in-Whole : goal.returns-in-Whole
returns-in-Whole c = climb_home c.loop-set.invariant (sym c.in-Whole.ensures)

pub returns-in-Test : goal.returns-in-Test
returns-in-Test c = climb_held c.loop-set.invariant (sym c.in-Test.ensures)

pub returns-in-First : goal.returns-in-First
returns-in-First c =
    let climb = c.loop-set.invariant in
    let higher = c.args.ahead.now.climbs.higher _ climb.inside (λ e. omega arith) in
    let is = rw c.above-above.ensures at c.only.ensures in
    rw is (climb_first climb (omega arith) (rw is at c.only.type_inv) (sym c.in-First.ensures))

pub loop-set-preserved : goal.loop-set-preserved
loop-set-preserved c =
    let climb = c.loop-set.invariant in
    let higher = c.args.ahead.now.climbs.higher _ climb.inside (λ e. omega arith) in
    let is = rw c.above-above.ensures at c.only-set.ensures in
    rw (is, c.above-above.ensures) (climb_up climb (omega arith) (rw is at c.only-set.type_inv) c.args.ahead.now.climbs (sym c.in-Round.ensures))
