-- `asked::spread::ask` meets its contract: the byte table is freed of marks and the ends are cleared, the whole rule's question is
-- marked, and what it asks for, until no question waits; the marks alone are left.
use Prim.Native.Nat.{◌-◌}
use mathlib.Core.Path.{◌≡◌, ◌∙◌}
use native.Mathlib.Omega.{arith}
use lib.ListN.{length}
use Rattle.meaning.specs.Fewest.{anywhere}
use Rattle.records.specs.Rules.{records_of}
use Rattle.fewest.proofs.Keeping.{threads_kept}
use Rattle.asked.specs.Mark.{begun}
use Rattle.asked.specs.Seek.{marks_in}
use Rattle.asked.proofs.Inside.{unmarked_out}
use Rattle.asked.proofs.Beginning.{zeros_bits, begun_marks, none_answered, chased_from}
use Rattle.asked.proofs.spread.ask.Goals as goal
use Rattle.asked.proofs.spread.ask.Goals.{After-chase}

pub chase-requires : goal.chase-requires
chase-requires c =
    let (some, _, threads) = c.requires in
    let kept = c.mark_on.ensures.kept in
    let cleared = c.fill.ensures.after (λ y e. e) in
    (zeros_bits (length c.args.ends.now) cleared, some, threads_kept c.args.task.now.site.accepted (λ i h. kept.below i h ∙ c.free.ensures.1.same i h) threads)

-- the marks that the chase begins with are the rule's
begins : (c : After-chase) → marks_in c.mark_on.new.asked c.fill.new.self ≡ begun (length (records_of c.args.task.now.rule.bytes.now) - 1) c.args.start (length c.args.ends.now)
begins c =
    let (some, small, _) = c.requires in
    let ready = c.args.task.now.ready in
    let few = ready.few in
    let one = rw c.only.ensures at c.mark_on.ensures in
    let cleared = c.fill.ensures.after (λ y e. e) in
    rw ready.counted at (begun_marks (length c.args.ends.now) (omega arith) small c.free.ensures.0 cleared one)

pub narrow-requires : goal.narrow-requires
narrow-requires c =
    let (some, small, _) = c.requires in
    let ready = c.args.task.now.ready in
    let counted = ready.counted in
    let reached = rw (begins (goal.at.narrow-requires c).After-chase) at (c.chase.ensures.0.reached anywhere) in
    let out = unmarked_out (rw counted at ready.inside) (rw counted at ready.firsts) _ reached (rw counted at some) small in
    (ready.few, rw counted out)

pub returns : goal.returns
returns c =
    let counted = c.args.task.now.ready.counted in
    let (chased, waits) = c.chase.ensures in
    rw c.narrow.ensures (chased_from (begins (goal.at.returns c).After-chase) (λ g. none_answered c.free.ensures.0 c.mark_on.ensures.kept) chased (rw counted at waits))
