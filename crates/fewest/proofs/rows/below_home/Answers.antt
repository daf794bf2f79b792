-- `fewest::rows::below_home` meets its contract: at other terms than the end nothing is left that is a number.
use native.Mathlib.Omega.{arith}
use borrow.Author.Tests.{eqb-true}
use Rattle.meaning.specs.Limits.{terms}
use Rattle.fewest.proofs.Entries.{view_top}
use Rattle.fewest.proofs.Quieting.{home_below}
use Rattle.fewest.proofs.rows.below_home.Goals as goal

pub returns-then-end-ge-TERMS : goal.returns-then-end-ge-TERMS
unfolding terms
returns-then-end-ge-TERMS c =
    λ yes.
    rw c.in-End.is (home_below _ _ (view_top c.args.numbers.now c.fits-numbers _) (λ e. absurd (omega arith)))

pub number-requires : goal.number-requires
unfolding terms
number-requires c = (c.requires, omega arith)

pub returns-else-end-ge-TERMS : goal.returns-else-end-ge-TERMS
returns-else-end-ge-TERMS c =
    λ yes.
    let here = eqb-true c.number.result 0 yes in
    rw c.in-End.is (home_below _ _ (view_top c.args.numbers.now c.fits-numbers _) (λ h. omega (arith, c.number.ensures.0)))
