-- `asked::chase::ask_step` meets its contract: an axis that takes triples goes by the threads, a named self stays at its name, any
-- other self at a vocabulary term.
use mathlib.Core.Path.{sym}
use Rattle.fewest.proofs.Resting.{nameless}
use Rattle.asked.specs.Seek.{at_name}
use Rattle.asked.specs.Chase.{as_step}
use Rattle.asked.proofs.Serving.{kept_none}
use Rattle.asked.proofs.ByMoves.{name_looked, name_passed}
use Rattle.asked.proofs.chase.ask_step.Goals as goal

pub returns-then-name-t : goal.returns-then-name-t
returns-then-name-t c =
    let at = c.requires.0 in
    let (look, kept) = rw c.in-Term.is at c.rest_on.ensures in
    (λ g. rw (c.in_default.is, c.in-Term.is) (name_looked (look _ g _ _ at.small at.marked at_name)), kept)

pub returns-else-name-t : goal.returns-else-name-t
returns-else-name-t c = (λ g. rw (c.in_default.is, c.in-Term.is) (name_passed (λ e. c.if-name-t.false (sym e))), kept_none _)

pub returns-in_default-label : goal.returns-in_default-label
returns-in_default-label c =
    let (look, kept) = c.stay.ensures in
    (λ g. rw c.in_default.is (look _ g _ c.requires.0.threads (nameless c.args.step.label c.in_default-label.not-Term) as_step), kept)
