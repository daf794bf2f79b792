use native.Mathlib.Omega.{arith}
use Rattle.calls.proofs.Noting.{triple_terms, noted_none, noted_more, noted_all}
use Rattle.calls.proofs.ceiling.note.Goals as goal

pub note_triple-requires : goal.note_triple-requires
note_triple-requires c =
    let site = c.args.site.now in
    triple_terms site.bytes.now site.accepted c.loop-k.k c.loop-k-test.true c.triple_at.ensures

pub loop-k-preserved : goal.loop-k-preserved
loop-k-preserved c =
    let site = c.args.site.now in
    rw c.note_triple.ensures
    (noted_more site.bytes.now site.accepted c.loop-k.k c.loop-k-test.true c.triple_at.ensures
    c.loop-k.invariant)

pub loop-k-init : goal.loop-k-init
loop-k-init c = noted_none c.args.site.now.bytes.now c.requires

pub returns : goal.returns
returns c = noted_all c.args.site.now.bytes.now (omega arith) c.loop-k.invariant
