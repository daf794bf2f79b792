use mathlib.Core.Path.{◌∙◌}
use native.Mathlib.Omega.{arith}
use Rattle.fewest.specs.Work.{moved_at}
use Rattle.fewest.proofs.Axes.{axial_inside}
use Rattle.asked.proofs.Serving.{kept_none, kept_then}
use Rattle.asked.proofs.Going.{part_terms, first_along, seen_none, seen_more, seen_all, seen_bits, next_along}
use Rattle.asked.proofs.chase.go.Goals as goal

pub loop-k-init : goal.loop-k-init
loop-k-init g c =
    let (at, _, _) = c.requires in
    let (along, begun) = c.new-walk.ensures in
    let first = first_along c.args.axis c.args.task.now.site.accepted at.threads at.small begun in
    (along, seen_none c.args.axis c.args.task.now.site.accepted first, kept_none _, λ h. (first.own h).1)

pub term_at-middle-requires : goal.term_at-middle-requires
term_at-middle-requires g c =
    let good = c.args.task.now.site.accepted in
    let inside = c.in-Some.ensures.2.1 in
    (omega arith, (axial_inside (_, c.parts_of-parts.ensures)).middle)

pub term_at-to-requires : goal.term_at-to-requires
term_at-to-requires g c =
    let good = c.args.task.now.site.accepted in
    let inside = c.in-Some.ensures.2.1 in
    (omega arith, (axial_inside (_, c.parts_of-parts.ensures)).to)

pub pursue-requires : goal.pursue-requires
unfolding moved_at
pursue-requires g c =
    let (at, _, tests) = c.requires in
    let good = c.args.task.now.site.accepted in
    let are = part_terms c.args.axis good c.parts_of-parts.ensures c.in-Some.ensures.2.1 in
    ((seen_bits c.args.axis good at.bits c.loop-k.invariant.1).0, at.row, rw c.label.ensures tests, rw c.term_at-middle.ensures are.middle, rw c.term_at-to.ensures are.to)

pub loop-k-preserved : goal.loop-k-preserved
loop-k-preserved g c =
    let (at, onward, _) = c.requires in
    let good = c.args.task.now.site.accepted in
    let (along, seen-at, kept, starts-at) = c.loop-k.invariant in
    let (by, term, step) = c.in-Some.ensures in
    let (here, inside, on) = rw along.1 at step in
    let seen = rw (← here) at seen-at in
    let starts = rw (← here) at starts-at in
    let (looked, more) = rw c.label.ensures at c.pursue.ensures in
    let next = next_along c.args.axis good at.threads kept along.0 (starts inside) on in (
      (by ∙ along.0, term ∙ along.1),
      seen_more c.args.axis good at.small at.marked c.parts_of-parts.ensures inside (starts inside) seen
          (rw (← c.term_at-middle.ensures, ← c.term_at-to.ensures) (looked _ _ onward)) next,
      kept_then kept more,
      λ h. (next.own h).1,
    )

pub returns : goal.returns
returns g c =
    (seen_all c.args.axis c.args.task.now.site.accepted c.in_default.ensures.2 c.loop-k.invariant.1, c.loop-k.invariant.2)
