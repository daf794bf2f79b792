use Prim.Native.Nat.{◌-◌}
use native.Mathlib.Omega.{arith}
use Rattle.records.proofs.Checked.{rule_ends}
use Rattle.fewest.proofs.Linking.{linking_begins, linking_on, linking_end}
use Rattle.fewest.proofs.links.link.Goals as goal

pub loop-r-init : goal.loop-r-init
loop-r-init c = rw c.new-links.ensures (linking_begins c.requires.0)

pub link_record-requires : goal.link_record-requires
link_record-requires c =
    let p = c.requires in
    (p.1, rule_ends p.0 (c.loop-r.r - 1) (omega (arith, c.loop-r.auto.r, c.loop-r-test.true)))

pub loop-r-preserved : goal.loop-r-preserved
loop-r-preserved c =
    linking_on c.requires.0 c.loop-r-test.true c.loop-r.auto.r c.loop-r.invariant c.link_record.ensures

pub returns : goal.returns
returns c = linking_end c.requires.0 c.loop-r-test.false c.loop-r.invariant
