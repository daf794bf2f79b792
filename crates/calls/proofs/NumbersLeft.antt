-- A lent table of bytes that was settled from none holds the number table of the rule, to any goal.
-- Nothing here knows how it was settled.
use Prim.Native.Nat.{ℕ, ◌+◌, ◌*◌, ◌-◌, ◌≤◌}
use mathlib.Core.Path.{◌≡◌, refl}
use mathlib.Core.List.{List, [], ◌∷◌}
use native.Mathlib.Omega.{arith}
use lib.ListN.{length}
use Rattle.meaning.specs.Limits.{terms, records}
use Rattle.meaning.specs.Expression.{Expr, Expression}
use Rattle.meaning.specs.Fewest.{Goal}
use Rattle.records.specs.Sites.{site_of}
use Rattle.records.specs.Rules.{records_of}
use Rattle.fewest.specs.Frame.{Links}
use Rattle.fewest.specs.Pairs.{pairs}
use Rattle.fewest.specs.Table.{Full}
use Rattle.fewest.proofs.Bridge.{settled_numbers}
use Rattle.calls.specs.Tables.{NumberTable}
use Rattle.calls.specs.Given.{Given}
use Rattle.calls.specs.Inner.{Numbered}
use Rattle.calls.proofs.Admits.{read_counted, read_size, given_linked, given_ready}

-- two bytes are one number
pairs_half : (n : ℕ) (b : List ℕ) → length b ≡ n + n → length (pairs b) ≡ n
unfolding pairs
pairs_half n [] long = omega arith
pairs_half n (h ∷ []) long = absurd (omega arith)
pairs_half n (h ∷ (l ∷ b)) long = omega (arith, pairs_half (n - 1) b (omega arith))

-- What is settled from none is the number table.
pub settled_table : {s r : List ℕ} {n c : ℕ} {starts : List ℕ} {L : Links} → Given s r n c starts L → {e : Expr} → Expression (records_of r) e →
    {g : Goal} (b : List ℕ) → Full b → Numbered s n r L.up L.role L.first g (pairs b) →
    NumberTable (site_of s n) g e (pairs b)
unfolding Full
settled_table {r = r} {L = L} given x b full settled =
    let ready = given_ready given in
    let few : length (records_of r) ≤ records = omega (arith, ready.counted, ready.few) in
    let (numbered, unused) = settled_numbers {L = L} ready.good.within x (given_linked given x) few refl settled.reached settled.settled in
    record {
      long = pairs_half (records * terms) b full;
      numbers = numbered;
      unused = λ q t past. unused q t (omega (arith, read_counted given.read, read_size given.read x));
    }
