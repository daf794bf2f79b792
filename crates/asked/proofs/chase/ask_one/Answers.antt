-- `asked::chase::ask_one` meets its contract: the record is one of the rule, and if its question waited, it was asked on.
use mathlib.Core.Path.{◌∙◌, ap, subst}
use native.Mathlib.Omega.{arith}
use Rattle.records.specs.Rules.{rec_of}
use Rattle.fewest.specs.Offer.{view}
use Rattle.asked.specs.Serve.{TakenUp}
use Rattle.fewest.proofs.Keeping.{threads_kept}
use Rattle.asked.proofs.Chasing.{chased_none, one_chased}
use Rattle.asked.proofs.chase.ask_one.Goals as goal

pub first-operand-requires : goal.first-operand-requires
first-operand-requires c = let few = c.args.task.now.ready.few in omega arith

pub ask_on-requires : goal.ask_on-requires
unfolding view
ask_on-requires c =
    let ready = c.args.task.now.ready in
    let few = ready.few in
    let (bits, row, small, threads) = c.requires in
    let taken = c.take_up.ensures in (
      record {
        bits = bits;
        row = omega arith;
        small = small;
        threads = threads_kept ready.good taken.below threads;
        marked = rw taken.same (taken.waited c.if-take_up.true).marked;
      },
      rw c.record_of-rec.ensures (ready.sits _ row),
      rw c.first-operand.ensures (omega (arith, ready.firsts _ row)),
    )

pub returns-then-take_up : goal.returns-then-take_up
returns-then-take_up c =
    let ready = c.args.task.now.ready in
    let few = ready.few in
    let (_, row, small, _) = c.requires in
    let (asked, kept) = rw c.first-operand.ensures at c.ask_on.ensures in
    one_chased c.record_of-rec.result (omega arith) small (rw (← ready.counted) row) (ap rec_of c.record_of-rec.ensures ∙ ready.reads _ row)
    (subst (TakenUp _ _ _ _) c.if-take_up.true c.take_up.ensures) asked kept

pub returns-else-take_up : goal.returns-else-take_up
returns-else-take_up c =
    let taken = c.take_up.ensures in
    let same = taken.left c.if-take_up.false in
    (rw same chased_none, taken.served)
