-- The ceiling that a call answers: the count of the rule's records, times one more than the number of different terms.
-- It fits, as both are limited.
use Prim.Native.Nat.{ℕ, ◌+◌, ◌*◌, ◌≤◌}
use mathlib.Core.List.{List}
use native.Mathlib.Nat.{mul-le-mul}
use native.Mathlib.Omega.{arith}
use Rattle.std.specs.Prelude.{Ok, Err}
use Rattle.meaning.specs.Limits.{terms, records}
use Rattle.records.specs.declared.Refusal.{Refusal}
use Rattle.calls.specs.Given.{Read}
use Rattle.calls.specs.Inner.{TurnedAway, Counted}
use Rattle.calls.specs.Promise.{Limited, refused, at}
use Rattle.calls.proofs.Admits.{turned_refuses_none, read_size, read_few, read_admits_none}

-- What is turned away is refused.
pub limit_turned : {s r : List ℕ} {x : Refusal} → TurnedAway s r 0 0 x → Limited s r (Err x)
limit_turned away = refused (turned_refuses_none tt away)

module _ {s r : List ℕ} {n c : ℕ} {starts : List ℕ} (read : Read s r n c starts) {d : ℕ} where
  -- It is the ceiling of the site and the rule,
  pub limit_given : Counted s n d → Limited s r (Ok (c * (d + 1)))
  limit_given counted =
      let (e, admits) = read_admits_none tt read in
      rw (read_size read admits.expression) (at admits counted)

  -- and no larger than that of the longest rule over all terms.
  pub limit_small : d ≤ terms → c * (d + 1) ≤ records * (terms + 1)
  limit_small h = mul-le-mul (read_few read) (omega arith)
