-- States of the walk: the term and the rule of a state, and that free moves keep both.
-- Every induction over ways carries these along.
use Prim.Native.Nat.{ℕ, ◌<◌}
use mathlib.Core.Path.{◌≡◌, refl, sym, subst, ◌∙◌}
use Rattle.meaning.specs.Limits.{terms}
use Rattle.meaning.specs.Site.{Site}
use Rattle.meaning.specs.Expression.{Expr, plug}
use Rattle.meaning.specs.Fewest.{State, entered, finished, Free, sequence_in, sequence_on, sequence_out, one_in, one_out, other_in, other_out, round_in, round_empty, round_again, round_out}

-- the term where a state stands, and the rule in which its subexpression stands
abbrev pub place : State → ℕ
place (entered e K t) = t
place (finished e K u) = u

abbrev pub rule_of : State → Expr
rule_of (entered e K t) = plug e K
rule_of (finished e K u) = plug e K

-- free moves keep the place and the rule
pub free_keeps : {s : Site} {x y : State} → Free s x y → (place y ≡ place x) × (rule_of y ≡ rule_of x)
free_keeps sequence_in = (refl, refl)
free_keeps sequence_on = (refl, refl)
free_keeps sequence_out = (refl, refl)
free_keeps one_in = (refl, refl)
free_keeps one_out = (refl, refl)
free_keeps other_in = (refl, refl)
free_keeps other_out = (refl, refl)
free_keeps round_in = (refl, refl)
free_keeps (round_empty v) = (refl, refl)
free_keeps round_again = (refl, refl)
free_keeps round_out = (refl, refl)

-- the state is one of the rule's, at one of the terms
abbrev pub WithinRule : Expr → State → Type 0
WithinRule rule x = (rule_of x ≡ rule) × (place x < terms)

pub free_within : {rule : Expr} {s : Site} {x y : State} → Free s x y → WithinRule rule x → WithinRule rule y
free_within f w = ((free_keeps f).1 ∙ w.0, subst (λ t. t < terms) (sym (free_keeps f).0) w.1)
