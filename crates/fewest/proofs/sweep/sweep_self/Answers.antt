-- `fewest::sweep::sweep_self` meets its contract: a named self stays at its name, any other at each vocabulary term.
use mathlib.Core.Path.{refl}
use native.Mathlib.Omega.{arith}
use Rattle.fewest.specs.Work.{at_name}
use Rattle.fewest.proofs.Resting.{nameless, name_swept}
use Rattle.fewest.proofs.sweep.sweep_self.Goals as goal

pub returns-in-Term : goal.returns-in-Term
returns-in-Term c = name_swept c.in-Term.is (c.rest.ensures _ (at_name refl) (λ e. absurd (omega arith)))

pub returns : goal.returns
returns c = c.sweep_rests.ensures _ c.requires.2 (nameless c.args.label c.in_default.not-Term) (λ e. absurd (omega arith))
