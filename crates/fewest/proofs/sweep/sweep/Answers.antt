use mathlib.Core.Path.{◌∙◌, ap}
use native.Mathlib.Omega.{arith}
use Rattle.records.specs.Rules.{rec_of}
use Rattle.fewest.proofs.Sweeps.{settles_chain}
use Rattle.fewest.proofs.Loops.{seen_none, seen_more}
use Rattle.fewest.proofs.ByRecords.{record_swept}
use Rattle.fewest.proofs.sweep.sweep.Goals as goal

pub loop-r-init : goal.loop-r-init
loop-r-init c = seen_none settles_chain

pub record_of-rec-requires : goal.record_of-rec-requires
record_of-rec-requires c = omega (arith, c.args.task.now.ready.few)

pub first-first-requires : goal.first-first-requires
first-first-requires c = omega (arith, c.args.task.now.ready.few)

pub sweep_record-changed-requires : goal.sweep_record-changed-requires
sweep_record-changed-requires c =
    let ready = c.args.task.now.ready in
    let r = c.loop-r.r in (
      omega (arith, ready.few),
      rw c.record_of-rec.ensures (ready.sits r (omega arith)),
      omega (arith, c.first-first.ensures, ready.few, ready.firsts r (omega arith)),
      c.requires,
    )

pub loop-r-preserved : goal.loop-r-preserved
loop-r-preserved c =
    let ready = c.args.task.now.ready in
    let r = c.loop-r.r in
    seen_more settles_chain c.loop-r.invariant
    (record_swept (rw (← ready.counted) (omega arith))
    (ap rec_of c.record_of-rec.ensures ∙ ready.reads r (omega arith))
    (rw c.first-first.ensures at c.sweep_record-changed.ensures))
