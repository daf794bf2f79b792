-- `levels::search::star_at` meets its contract: a round's entry, and then an empty round.
use mathlib.Core.Path.{refl}
use mathlib.Core.List.Memᴰ
use Rattle.fewest.specs.Work.{idle, worked}
use Rattle.fewest.proofs.Rowwise.{row_looked}
use Rattle.levels.proofs.search.star_at.Goals as goal

pub returns-then-lower : goal.returns-then-lower
returns-then-lower c =
    worked idle (Memᴰ.head refl)
    (row_looked c.args.at.inside c.number-v.ensures.0 c.lower.ensures).reached

pub returns : goal.returns
returns c =
    worked
    (worked idle (Memᴰ.head refl) (row_looked c.args.at.inside c.number-v.ensures.0 c.lower.ensures).reached)
    (Memᴰ.tail (Memᴰ.head refl)) (c.stay.ensures (λ e. refl))
