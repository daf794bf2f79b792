-- `fewest::rows::step_quiet` meets its contract: the row bounds what is left, and no triple lowers an entry to one more than it.
use mathlib.Core.Path.{refl}
use Rattle.records.proofs.Sites.{length-site_of}
use Rattle.fewest.proofs.ByTriples.{axis_takes}
use Rattle.fewest.proofs.Quieting.{step_kept}
use Rattle.fewest.proofs.rows.step_quiet.Goals as goal

pub returns-then-bounds : goal.returns-then-bounds
returns-then-bounds c =
    λ yes.
    step_kept c.args.label (axis_takes _) (c.bounds.ensures c.if-bounds.true)
    (λ k h. let here = rw length-site_of at h in c.keep_all.ensures yes k here _ _ c.args.site.now.accepted here refl)
