-- `levels::search::take` meets its contract: the triple's one move along the axis, and the note of where it begins.
use Rattle.records.specs.Sites.{site_of}
use Rattle.records.specs.Rules.{axis_of}
use Rattle.fewest.proofs.Axes.{Terms, Taken, moved_terms, moved_taken}
use Rattle.levels.proofs.Levelling.{levelled_numbers, levelled_scratch, levelled_then}
use Rattle.levels.proofs.Steps.{step_record, step_tests, axis_hinted}
use native.Mathlib.Omega.{arith}
use Rattle.levels.proofs.search.take.Goals as goal
use Rattle.levels.proofs.search.take.Goals.{After-move_at-m}

-- the terms of the triple are terms
in-terms : (c : After-move_at-m) → Terms c.move_at-m.result
in-terms c =
    let (within, (axis, is, so)) = c.requires in
    moved_terms c.move_at-m.ensures c.args.step.now.task.now.site.accepted within (axis, so)

-- and it is the axis's one move by it
one-move : (c : After-move_at-m) → let site = c.args.step.now.task.now.site in
    Taken (site_of site.bytes.now site.triples) c.args.k (axis_of c.requires.1.0) c.move_at-m.result
one-move c =
    let (within, (axis, is, so)) = c.requires in
    moved_taken c.move_at-m.ensures c.args.step.now.task.now.site.accepted within axis so

pub reach-requires : goal.reach-requires
reach-requires c =
    let step = c.args.step.now in
    let inside = in-terms (goal.at.reach-requires c).After-move_at-m in
    (step_record step, step_tests step, inside.from, inside.middle, inside.to)

pub note-requires : goal.note-requires
note-requires c = (in-terms (goal.at.note-requires c).After-move_at-m).from

pub returns-then-reach : goal.returns-then-reach
returns-then-reach c =
    let step = c.args.step.now in
    let move = one-move (goal.at.returns-then-reach c).After-move_at-m in
    levelled_then
    (levelled_numbers (axis_hinted step c.requires.1.1 (omega arith) (c.reach.ensures _ _ _ move.moves)))
    (levelled_scratch c.note.ensures)

pub returns-else-reach : goal.returns-else-reach
returns-else-reach c =
    let step = c.args.step.now in
    let move = one-move (goal.at.returns-else-reach c).After-move_at-m in
    levelled_numbers (axis_hinted step c.requires.1.1 (omega arith) (c.reach.ensures _ _ _ move.moves))
