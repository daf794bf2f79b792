-- `calls::decide::finish` meets its contract: its tests are those of the verdict.
use borrow.Author.Tests.{eq-eqb, ne_eqb, lt-ltb, le-ltb}
use Rattle.meaning.specs.Limits.{none}
use Rattle.calls.specs.Inner.{verdict}
use Rattle.calls.proofs.decide.finish.Goals as goal

pub returns-then-steps-eq-NONE : goal.returns-then-steps-eq-NONE
unfolding none verdict
returns-then-steps-eq-NONE c = rw (c.count-figure.ensures, eq-eqb _ _ c.if-steps-eq-NONE.true)

pub returns-then-most-steps : goal.returns-then-most-steps
unfolding none verdict
returns-then-most-steps c = rw (ne_eqb _ _ c.if-steps-eq-NONE.false, lt-ltb _ _ c.if-most-steps.true)

pub returns : goal.returns
unfolding none verdict
returns c = rw (c.count-figure.ensures, ne_eqb _ _ c.if-steps-eq-NONE.false, le-ltb _ _ c.if-most-steps.false)
