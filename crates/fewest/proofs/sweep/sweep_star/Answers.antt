-- `fewest::sweep::sweep_star` meets its contract: both of its works are quiet, or both are done.
use mathlib.Core.Path.{refl}
use Rattle.fewest.proofs.ByRecords.{by_star}
use Rattle.fewest.proofs.Sweeps.{lowers_chain, swept_none}
use Rattle.fewest.proofs.sweep.sweep_star.Goals as goal

pub returns-then-star_quiet : goal.returns-then-star_quiet
returns-then-star_quiet c = λ s threads.
    let (round, rests) = c.star_quiet.ensures c.if-star_quiet.true _ in
    by_star (λ w. lowers_chain) _ 0 refl (swept_none lowers_chain round) (swept_none lowers_chain rests)

pub returns : goal.returns
returns c = λ s threads.
    by_star (λ w. lowers_chain) _ 0 refl (c.sweep_row-one.ensures _)
    (c.sweep_rests.ensures s threads tt (λ e. refl))
