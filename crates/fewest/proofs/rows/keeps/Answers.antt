-- `fewest::rows::keeps` meets its contract: the triple is the axis's one move by it, and is near enough, or the label bars it.
use native.Mathlib.Omega.{arith}
use Rattle.meaning.specs.Limits.{none}
use Rattle.fewest.specs.Pairs.{pairs}
use Rattle.std.proofs.lemmas.Bool.{not-true}
use Rattle.fewest.proofs.Axes.{Terms, moved_terms, moved_taken}
use Rattle.fewest.proofs.Quieting.{keep_near, keep_barred}
use Rattle.fewest.proofs.rows.keeps.Goals as goal
use Rattle.fewest.proofs.rows.keeps.Goals.{After-move_at-m}

-- the terms of the triple are terms
in-terms : (c : After-move_at-m) → Terms c.move_at-m.result
in-terms c =
    let (here, row, other, tests, axial) = c.requires in
    moved_terms c.move_at-m.ensures c.args.site.now.accepted here axial

pub number-requires : goal.number-requires
number-requires c = (c.requires.2, (in-terms c).from)

pub number-requires-2 : goal.number-requires-2
number-requires-2 c = (c.requires.1, (in-terms (goal.at.number-requires-2 c).After-move_at-m).to)

pub overflow_add-number : goal.overflow_add-number
unfolding none
overflow_add-number c = omega arith

pub returns-then-number : goal.returns-then-number
returns-then-number c =
    λ yes n a good h so.
    let near = c.number.ensures in
    let far = c.number-2.ensures in
    keep_near c.args.label (pairs c.args.numbers.now) c.args.b c.args.r
    (moved_taken c.move_at-m.ensures good h a so) (in-terms (goal.at.returns-then-number c).After-move_at-m).to (omega arith)

pub allows-requires : goal.allows-requires
allows-requires c =
    (c.requires.2, (in-terms (goal.at.allows-requires c).After-move_at-m).middle, c.requires.3)

pub returns-else-number : goal.returns-else-number
returns-else-number c =
    λ yes n a good h so.
    keep_barred c.args.label (pairs c.args.numbers.now) c.args.b c.args.r
    (moved_taken c.move_at-m.ensures good h a so) c.allows.ensures (not-true _ yes)
