-- What a step of the rule is known for: its record is one of the limit, its label sits there, and what its one work lowers is reached.
use Prim.Native.Nat.{ℕ, ◌<◌}
use mathlib.Core.Path.{◌≡◌}
use mathlib.Core.List.{List}
use native.Mathlib.Omega.{arith}
use lib.ListN.{length}
use Rattle.std.specs.Prelude.{None, Some}
use Rattle.meaning.specs.Limits.{records}
use Rattle.meaning.specs.Move.{self}
use Rattle.records.specs.declared.Axis.{Axis}
use Rattle.records.specs.Rules.{axis_of}
use Rattle.fewest.specs.Pairs.{pairs}
use Rattle.fewest.specs.Offer.{Lowers}
use Rattle.fewest.specs.Work.{Tests, work_of}
use Rattle.levels.specs.declared.step.RuleStep.{RuleStep}
use Rattle.fewest.specs.Tasks.{framed}
use Rattle.levels.specs.Levelled.{HintedFor}
use Rattle.levels.proofs.Hints.{hinted_step, stepping_sits}

module _ (s : RuleStep) where
  pub step_record : s.r < records
  step_record = omega (arith, s.here, s.task.now.ready.few)

  pub step_tests : Tests s.read.label s.r
  step_tests = stepping_sits s.task.now.ready s.here s.read s.reads

  -- the work of its axis was done
  pub axis_hinted : {a : Axis} {N M : List ℕ} → s.read.axis ≡ Some a → length M ≡ length N →
      Lowers (framed s.task.now) (work_of (axis_of a) s.read.label) s.r (pairs N) (pairs M) → HintedFor s.task.now N M
  axis_hinted e long p = hinted_step s.task.now.ready s.here s.read s.reads long (rw e p)

  -- and of self
  pub self_hinted : {N M : List ℕ} → s.read.axis ≡ None → length M ≡ length N →
      Lowers (framed s.task.now) (work_of self s.read.label) s.r (pairs N) (pairs M) → HintedFor s.task.now N M
  self_hinted e long p = hinted_step s.task.now.ready s.here s.read s.reads long (rw e p)

-- of these what needs no naming
pub ruleset steps = (step_record, step_tests, axis_hinted, self_hinted)
