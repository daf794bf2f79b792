use Rattle.calls.proofs.Writing.{writing_begin, writing_term, writing_something, writing_placed, writing_small, writing_room, writing_step, writing_end}
use Rattle.calls.proofs.write.write.Goals as goal

pub loop-i-init : goal.loop-i-init
loop-i-init g c = let pre = c.requires in writing_begin c.args.task.now.ready pre.1 pre.2 pre.3

pub next_step-requires : goal.next_step-requires
next_step-requires g c = (c.requires.0, writing_term c.loop-i.invariant, writing_placed c.loop-i.invariant)

pub returns-in_default : goal.returns-in_default
returns-in_default g c =
    absurd (writing_something c.loop-i.invariant c.loop-i-test.true c.next_step.ensures c.in_default.is)

pub put_step-requires : goal.put_step-requires
put_step-requires g c = (
  writing_room c.loop-i.invariant c.loop-i-test.true,
  writing_small c.loop-i.invariant c.loop-i-test.true c.next_step.ensures c.in-Some.is,
)

pub loop-i-preserved : goal.loop-i-preserved
loop-i-preserved g c =
    writing_step c.loop-i.invariant c.loop-i-test.true
    c.next_step.ensures c.in-Some.is c.put_step.ensures

pub returns : goal.returns
returns g c = writing_end c.loop-i.invariant c.loop-i-test.false
