-- `calls::decide::show` meets its contract: the path is written by the threads where the room holds it.
use mathlib.Core.Path.{refl}
use mathlib.Core.Logic.{inl, inr}
use native.Mathlib.Omega.{arith}
use Rattle.meaning.specs.Limits.{none}
use Rattle.calls.proofs.Admits.{read_some, read_few}
use Rattle.calls.proofs.Tasks.{task_given, task_numbered}
use Rattle.calls.proofs.Deciding.{numbered_walkable, roomy_less}
use Rattle.calls.proofs.decide.show.Goals as goal

pub overflow_sub-query : goal.overflow_sub-query
overflow_sub-query g c = omega (arith, read_some c.args.query.now.read)

pub number-steps-requires : goal.number-steps-requires
number-steps-requires g c =
    let query = c.args.query.now in
    (omega (arith, read_some query.read, read_few query.read), query.start_fits)

pub write-requires : goal.write-requires
unfolding none
write-requires g c =
    let query = c.args.query.now in
    let (of, numbered, threads, holds) = c.requires in
    let (steps, bounded) = c.number-steps.ensures in
    let walkable = numbered_walkable (task_given of) (task_numbered of c.args.numbers.now numbered) query.start_fits steps (omega arith) in
    (threads, query.start_fits, roomy_less holds.roomy c.if-steps-most.true, rw (of.site, of.rule, of.goal) walkable)

pub returns-then-steps-most : goal.returns-then-steps-most
unfolding none
returns-then-steps-most g c =
    let of = c.requires.0 in
    let (steps, bounded) = c.number-steps.ensures in
    record {
      steps = rw of.count steps;
      bounded = bounded;
      written = λ some few. c.write.ensures;
      unrelated = λ e. absurd (c.if-steps-ne-NONE.true e);
      too_long = λ h. absurd (omega (arith, c.if-steps-most.true));
    }

pub returns-else-steps-ne-NONE : goal.returns-else-steps-ne-NONE
unfolding none
returns-else-steps-ne-NONE g c =
    let of = c.requires.0 in
    let (steps, bounded) = c.number-steps.ensures in
    record {
      steps = rw of.count steps;
      bounded = bounded;
      written = λ some few. absurd (elim c.else-steps-ne-NONE.either [ inl over ↦ omega arith | inr none ↦ omega arith ]);
      unrelated = λ e. refl;
      too_long = λ h. refl;
    }
