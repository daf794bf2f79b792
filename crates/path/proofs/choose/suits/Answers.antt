-- `path::choose::suits` meets its contract, test by test.
use mathlib.Core.Path.{sym, ◌∙◌}
use borrow.Author.Tests.{eqb-true}
use Rattle.path.proofs.Stepping.{suits_elsewhere, suits_barred, suits_left}
use Rattle.path.proofs.choose.suits.Goals as goal
use Rattle.path.proofs.choose.suits.Goals.{then-m-t, else-m-t}

pub returns-then-allows : goal.returns-then-allows
returns-then-allows c s = elim c.if-m-t.branch [
  | then-m-t w ↦ suits_left _ w.if-m-t.true w.allows.ensures (sym w.value-is ∙ c.if-allows.true) c.left.ensures
  | else-m-t w ↦ absurd (w.if-m-t.false (eqb-true _ _ (sym w.value-is ∙ c.if-allows.true)))
]

pub returns-else-allows : goal.returns-else-allows
returns-else-allows c s = elim c.if-m-t.branch [
  | then-m-t w ↦ rw c.if-allows.false (suits_barred _ w.allows.ensures (sym w.value-is ∙ c.if-allows.false))
  | else-m-t w ↦ rw c.if-allows.false (suits_elsewhere _ w.if-m-t.false)
]
