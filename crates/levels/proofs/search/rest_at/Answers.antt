-- `levels::search::rest_at` meets its contract: a named self stays at its name, any other where `stay` may.
use mathlib.Core.Path.{refl}
use Rattle.fewest.specs.Offer.{stay}
use Rattle.fewest.specs.Work.{at_name}
use Rattle.levels.proofs.Hints.{name_worked}
use native.Mathlib.Omega.{arith}
use Rattle.levels.proofs.search.rest_at.Goals as goal

pub returns-in-Term : goal.returns-in-Term
returns-in-Term c =
    name_worked c.in-Term.is
    (c.rest.ensures _ (at_name refl) (λ e. absurd (omega arith))).reached

pub returns-in-Term-2 : goal.returns-in-Term-2
returns-in-Term-2 c = stay
