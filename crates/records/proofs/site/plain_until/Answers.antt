use native.Mathlib.Omega.{arith}
use mathlib.Core.Path.{refl}
use Rattle.records.proofs.TwoBytes.{AllBytes}
use Rattle.records.proofs.Begun.{begun_none, begun_on}
use Rattle.records.proofs.Plain.{none, one, Holds, plain_holds, plain_read}
use Rattle.records.proofs.site.plain_until.Goals as goal

pub loop-at-init : goal.loop-at-init
loop-at-init c = (begun_none _, none)

pub loop-at-preserved : goal.loop-at-preserved
loop-at-preserved c =
    let site = c.args.site.now in
    let bytes : AllBytes site = λ i. (c.type_inv.site i).fits in
    let eight = c.eight_at-eight.ensures in
    let (plain, less) = rw eight at (c.is_plain.ensures c.if-not-is_plain.false) in
    let holds : Holds site c.loop-at.at = plain_holds _ _ bytes plain in
    let read = plain_read (omega arith) (omega arith) c.loop-at.invariant.1 holds less in
    (begun_on _ _ _ c.loop-at.invariant.0 read refl, rw eight (one holds))
