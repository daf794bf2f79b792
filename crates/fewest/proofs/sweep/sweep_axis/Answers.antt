use native.Mathlib.Omega.{arith}
use Rattle.records.proofs.Sites.{length-site_of}
use Rattle.fewest.proofs.Sweeps.{lowers_chain}
use Rattle.fewest.proofs.Loops.{seen_none, seen_more}
use Rattle.fewest.proofs.ByTriples.{axis_takes, moves_swept}
use Rattle.fewest.proofs.sweep.sweep_axis.Goals as goal

pub loop-k-init : goal.loop-k-init
loop-k-init c = λ a so. seen_none lowers_chain

pub look-changed-requires : goal.look-changed-requires
look-changed-requires c =
    let (known, tests) = c.requires in
    (omega arith, known, tests, (_, c.parts_of-parts.ensures))

pub loop-k-preserved : goal.loop-k-preserved
loop-k-preserved c =
    λ a so. seen_more lowers_chain (c.loop-k.invariant a so)
    (c.look-changed.ensures _ a c.args.site.now.accepted (omega arith) so)

pub returns : goal.returns
returns c =
    moves_swept c.args.label (axis_takes c.args.axis) (rw length-site_of (omega arith)) (c.loop-k.invariant _ c.parts_of-parts.ensures)
