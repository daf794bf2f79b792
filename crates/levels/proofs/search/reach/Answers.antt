-- `levels::search::reach` meets its contract: the label lets the middle pass and the offer is looked at, or nothing is done.
use mathlib.Core.Path.{sym, ◌∙◌}
use Rattle.fewest.specs.Pairs.{pairs}
use Rattle.fewest.specs.Offer.{stay}
use Rattle.levels.proofs.Hints.{reached_by}
use Rattle.levels.proofs.search.reach.Goals as goal

pub returns-then-number-lt-NONE : goal.returns-then-number-lt-NONE
returns-then-number-lt-NONE c = λ s a k move. stay

pub returns-then-allows : goal.returns-then-allows
returns-then-allows c =
    let args = c.args in
    reached_by args.m args.label (pairs args.numbers.now) (sym c.allows.ensures ∙ c.if-allows.true)
    c.requires.2 c.left-rest.ensures c.lower.ensures

pub returns : goal.returns
returns c = λ s a k move. stay
