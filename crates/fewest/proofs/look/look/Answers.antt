-- `fewest::look::look` meets its contract: the triple is the axis's one move by it; nothing lower can be offered, or the label lets
-- its middle pass and its offer is looked at, or nothing is offered.
use native.Mathlib.Omega.{arith}
use Rattle.meaning.specs.Limits.{none}
use Rattle.fewest.specs.Pairs.{pairs}
use Rattle.fewest.proofs.Axes.{Terms, moved_terms, moved_taken}
use Rattle.fewest.proofs.Looks.{look_passes, look_barred, look_low}
use Rattle.fewest.proofs.look.look.Goals as goal
use Rattle.fewest.proofs.look.look.Goals.{After-move_at-m}

-- the terms of the triple are terms
in-terms : (c : After-move_at-m) → Terms c.move_at-m.result
in-terms c =
    let (here, known, tests, axial) = c.requires in
    moved_terms c.move_at-m.ensures c.args.site.now.accepted here axial

pub number-requires : goal.number-requires
number-requires c =
    (c.requires.1, (in-terms c).from)

pub returns-then-number-le1 : goal.returns-then-number-le1
returns-then-number-le1 c =
    let args = c.args in
    λ n a good h so. look_low args.label (pairs args.numbers.now) (moved_taken c.move_at-m.ensures good h a so)
    (omega arith)

pub allows-requires : goal.allows-requires
allows-requires c =
    let (here, known, tests, axial) = c.requires in
    (known, (in-terms (goal.at.allows-requires c).After-move_at-m).middle, tests)

pub left-rest-requires : goal.left-rest-requires
left-rest-requires c =
    (c.requires.1, (in-terms (goal.at.left-rest-requires c).After-move_at-m).to)

pub overflow_add-rest : goal.overflow_add-rest
unfolding none
overflow_add-rest c = omega arith

pub lower-requires : goal.lower-requires
lower-requires c =
    (c.requires.1, (in-terms (goal.at.lower-requires c).After-move_at-m).from)

pub returns-then-allows : goal.returns-then-allows
returns-then-allows c =
    let args = c.args in
    λ n a good h so. look_passes args.label (pairs args.numbers.now)
    (moved_taken c.move_at-m.ensures good h a so)
    c.allows.ensures c.if-allows.true (in-terms (goal.at.returns-then-allows c).After-move_at-m).from c.left-rest.ensures c.lower.ensures

pub returns : goal.returns
returns c =
    let args = c.args in
    λ n a good h so. look_barred args.label (pairs args.numbers.now) (moved_taken c.move_at-m.ensures good h a so)
    c.allows.ensures c.if-allows.false
