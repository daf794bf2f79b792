-- `levels::spot::Spot::stands` meets its contract: a term at an end of a triple is a vocabulary term.
use mathlib.Core.Path.{sym, ◌∙◌}
use mathlib.Core.Logic.{inl, inr}
use borrow.Author.Tests.{eqb-true}
use Rattle.fewest.proofs.Resting.{word, subject_is, object_is}
use Rattle.levels.proofs.spot.Spot.stands.Goals as goal

pub returns-then-triple-self : goal.returns-then-triple-self
returns-then-triple-self c = λ _.
    let b = c.args.site.now.bytes.now in
    let here = c.if-site-self.false in
    word b here (inl (sym c.if-triple-self.true ∙ subject_is b c.triple_at-triple.ensures here))

pub returns-else-triple-self : goal.returns-else-triple-self
returns-else-triple-self c = λ holds.
    let b = c.args.site.now.bytes.now in
    let here = c.if-site-self.false in
    word b here (inr (sym (eqb-true _ _ holds) ∙ object_is b c.triple_at-triple.ensures here))
