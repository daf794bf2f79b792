use mathlib.Core.Path.{◌∙◌}
use native.Mathlib.Omega.{arith}
use Rattle.std.proofs.lemmas.Result.{err_from_is_err_and}
use Rattle.records.proofs.SiteRecord.{whole}
use Rattle.records.proofs.Readers.{stood, went_on}
use Rattle.records.proofs.Begun.{begun_on, begun_ended, begun_denied}
use Rattle.records.proofs.site.check_site.Goals as goal

pub returns-in_err-step : goal.returns-in_err-step
returns-in_err-step c =
    let p = err_from_is_err_and c.from_residual.result c.from_residual.ensures.1 in
    rw (p.1, p.2) (begun_denied _ _ c.loop-at.invariant (stood _ _ _ c.read_at-step.ensures ∙ c.in_err-step.was))

pub returns-in_default : goal.returns-in_default
returns-in_default c = begun_ended _ _ c.loop-at.invariant (stood _ _ _ c.read_at-step.ensures ∙ rw c.in_default.is at c.in_ok-step.was)

pub loop-at-smaller : goal.loop-at-smaller
loop-at-smaller c =
    let read = rw c.in-Some.is at c.in_ok-step.was in
    let past = went_on _ _ _ c.read_at-step.ensures read in
    omega (arith, past, whole _ _ (stood _ _ _ c.read_at-step.ensures ∙ read))

pub loop-at-preserved : goal.loop-at-preserved
loop-at-preserved c =
    let read = rw c.in-Some.is at c.in_ok-step.was in
    begun_on _ _ _ c.loop-at.invariant (stood _ _ _ c.read_at-step.ensures ∙ read) (went_on _ _ _ c.read_at-step.ensures read)
