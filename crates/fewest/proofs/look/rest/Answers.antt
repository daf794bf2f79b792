-- `fewest::look::rest` meets its contract: nothing lower can be offered, or the label lets the term pass and its offer is looked at, or
-- nothing is offered.
use native.Mathlib.Omega.{arith}
use Rattle.meaning.specs.Limits.{none}
use Rattle.fewest.specs.Pairs.{pairs}
use Rattle.fewest.proofs.Looks.{rest_low, rest_passes, rest_barred}
use Rattle.fewest.proofs.look.rest.Goals as goal

pub returns-then-number-cost : goal.returns-then-number-cost
returns-then-number-cost c =
    λ s may free. rest_low c.args.label c.args.cost (pairs c.args.numbers.now) c.requires.3 free (omega arith)

pub overflow_add-rest : goal.overflow_add-rest
unfolding none
overflow_add-rest c = omega arith

pub returns-then-allows : goal.returns-then-allows
returns-then-allows c =
    λ s may free. rest_passes c.args.label c.args.cost (pairs c.args.numbers.now) c.requires.3 free
    c.allows.ensures c.if-allows.true may c.requires.1 c.left-rest.ensures c.lower.ensures

pub returns : goal.returns
returns c =
    λ s may free. rest_barred c.args.label c.args.cost (pairs c.args.numbers.now) c.requires.3 free c.allows.ensures c.if-allows.false
