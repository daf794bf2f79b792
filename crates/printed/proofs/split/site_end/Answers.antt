use mathlib.Core.Path.{refl}
use native.Mathlib.Nat.{le_refl}
use native.Mathlib.Omega.{arith}
use Rattle.printed.specs.Input.{all, other, more}
use Rattle.printed.proofs.split.site_end.Goals as goal

pub returns-then-front-at-ne-TRIPLE_KIND : goal.returns-then-front-at-ne-TRIPLE_KIND
returns-then-front-at-ne-TRIPLE_KIND c =
    (c.loop-at.invariant _ (other c.loop-at-test.true c.if-front-at-ne-TRIPLE_KIND.true), omega arith)

pub loop-at-preserved : goal.loop-at-preserved
loop-at-preserved c = λ to p. c.loop-at.invariant to (more c.loop-at-test.true c.if-front-at-ne-TRIPLE_KIND.false p)

pub returns-else-front-at-ne-TRIPLE_KIND : goal.returns-else-front-at-ne-TRIPLE_KIND
returns-else-front-at-ne-TRIPLE_KIND c =
    (c.loop-at.invariant _ (more c.loop-at-test.true c.if-front-at-ne-TRIPLE_KIND.false (all (omega arith) refl)), le_refl _)

pub returns : goal.returns
returns c = (c.loop-at.invariant _ (all c.loop-at-test.false refl), le_refl _)
