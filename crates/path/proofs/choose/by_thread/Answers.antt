use mathlib.Core.Path.{◌∙◌}
use native.Mathlib.Omega.{arith}
use borrow.Author.Count.{below_none, below_more}
use Rattle.records.specs.Sites.{site_of}
use Rattle.records.specs.Rules.{axis_of}
use Rattle.records.proofs.Sites.{length-site_of}
use Rattle.fewest.proofs.Axes.{Taken, moved_taken, moved_terms}
use Rattle.path.proofs.Carrying.{goes}
use Rattle.path.proofs.Stepping.{triple_idle, triple_found, triple_none, thread_idle}
use Rattle.path.proofs.choose.by_thread.Goals as goal
use Rattle.path.proofs.choose.by_thread.Goals.{After-suits}

-- the triple that was read, as the axis takes it
taken : (c : After-suits) → let site = c.args.task.now.site in Taken (site_of site.bytes.now site.triples) c.in-Some.k (axis_of c.args.axis) c.move_at-m.result
taken c = moved_taken c.move_at-m.ensures c.args.task.now.site.accepted c.in-Some.ensures.2.1 c.args.axis c.parts_of-parts.ensures

pub loop-k-init : goal.loop-k-init
loop-k-init c =
    let pre = c.requires in
    let (along, begun) = c.new-walk.ensures in
    let first = begun _ _ pre.0 pre.3 in
    (along, λ h. (first.own h).1, thread_idle _ c.args.axis c.args.label _ _ _ first (below_none _))

pub suits-requires : goal.suits-requires
suits-requires c =
    let pre = c.requires in
    let are = moved_terms c.move_at-m.ensures c.args.task.now.site.accepted c.in-Some.ensures.2.1 (_, c.parts_of-parts.ensures) in
    (pre.1, pre.2, are.middle, are.to)

pub returns-then-suits : goal.returns-then-suits
returns-then-suits c =
    let (here, inside, _) = c.in-Some.ensures.2 in
    triple_found (goes c.args.axis) _ _ _ _ (taken (goal.at.returns-then-suits c).After-suits) (c.suits.ensures _) c.if-suits.true
    (rw (← here) at c.loop-k.invariant.2)

pub loop-k-preserved : goal.loop-k-preserved
loop-k-preserved c =
    let (along, own-at, idle-at) = c.loop-k.invariant in
    let (by, term, step) = c.in-Some.ensures in
    let (here, inside, on) = rw along.1 at step in
    let own = rw (← here) at own-at in
    let idle = rw (← here) at idle-at in
    let axis = c.args.axis in
    let next = on.next axis along.0 c.requires.0 (own inside) in
    let more =
    below_more _ _ idle
    (triple_idle (goes axis) _ _ _ _ (taken (goal.at.loop-k-preserved c).After-suits) (c.suits.ensures _) c.if-suits.false) in
    ((by ∙ along.0, term ∙ along.1), λ h. (next.own h).1, thread_idle _ axis c.args.label _ _ _ next (λ i h. more i (omega arith)))

pub returns : goal.returns
returns c =
    let site = c.args.task.now.site in
    triple_none (goes c.args.axis) c.args.label _ _ _ (rw (length-site_of site.bytes.now site.triples) c.in_default.ensures.2) c.loop-k.invariant.2
