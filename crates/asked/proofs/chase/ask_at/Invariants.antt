-- `asked::chase::ask_at` meets its contract: each turn asks on at one record of the rule, the first at the one that is given.
use Prim.Native.Nat.{◌<◌}
use mathlib.Core.Path.{◌≡◌}
use mathlib.Core.Logic.{◌⊎◌}
use Rattle.fewest.specs.Offer.{place}
use Rattle.asked.specs.Serve.{Waits, Fewer}
use Rattle.asked.specs.Task.{ChasedIn}
use Rattle.asked.proofs.chase.ask_at.Given as goal

abbrev pub invariant-loop-turn : goal.invariant-loop-turn
invariant-loop-turn l =
    (l.r < l.task.rule.count) × ChasedIn l.task l.numbers l.initial.asked l.initial.ends l.asked l.ends ×
    (((l.asked ≡ l.initial.asked) × (l.r ≡ l.from) × (l._turn ≡ 0)) ⊎ (Waits l.initial.asked (place l.from l.t) → Fewer l.initial.asked l.asked))
