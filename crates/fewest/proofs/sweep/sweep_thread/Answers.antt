use mathlib.Core.Path.{◌∙◌}
use native.Mathlib.Omega.{arith}
use Rattle.records.proofs.Sites.{length-site_of}
use Rattle.fewest.specs.Offer.{stay}
use Rattle.fewest.proofs.Sweeps.{lowers_chain, lowers_then}
use Rattle.fewest.proofs.Loops.{seen_none, seen_more}
use Rattle.fewest.proofs.ByTriples.{axis_takes, moves_swept}
use Rattle.fewest.proofs.Naming.{thread_seen}
use Rattle.fewest.proofs.sweep.sweep_thread.Goals as goal

pub loop-k-init : goal.loop-k-init
loop-k-init c =
    let (along, begun) = c.new-walk.ensures in (
      along,
      stay,
      λ threads place at others.
          let first = begun _ _ threads c.requires.2 in
          (λ h. (first.own h).1, thread_seen _ c.args.by c.args.label (axis_takes _) at _ _ others first (omega arith) (seen_none lowers_chain)),
    )

pub look-changed-requires : goal.look-changed-requires
look-changed-requires c =
    let (known, tests, term) = c.requires in
    (c.in-Some.ensures.2.1, known, tests, (_, c.parts_of-parts.ensures))

pub loop-k-preserved : goal.loop-k-preserved
loop-k-preserved c =
    let (along, low, inv) = c.loop-k.invariant in
    let (by, term, step) = c.in-Some.ensures in
    let (here, inside, on) = rw along.1 at step in
    let look = c.look-changed.ensures _ c.args.axis c.args.site.now.accepted inside c.parts_of-parts.ensures in (
      (by ∙ along.0, term ∙ along.1),
      lowers_then low look.reached,
      λ threads place at others.
          let (own, seen) = rw (← here) at (inv threads place at others) in
          let next = on.next _ along.0 threads (own inside) in
          (λ h. (next.own h).1, thread_seen _ c.args.by c.args.label (axis_takes _) at _ _ others next (omega arith) (seen_more lowers_chain seen look)),
    )

pub returns : goal.returns
returns c =
    let inv = c.loop-k.invariant in
    record {
      reached = inv.1;
      swept = λ threads place at others.
          moves_swept c.args.label (axis_takes c.args.axis) (rw length-site_of c.in_default.ensures.2) (inv.2 threads place at others).1;
    }
