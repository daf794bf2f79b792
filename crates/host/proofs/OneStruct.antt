-- The promise of each call for C determines its struct and everything lent: two results that it allows are equal.
-- It is so for all inputs, because the outcome is one (calls/proofs/OneResult) and a struct is an outcome laid out.
use Prim.Native.Nat.{ℕ}
use mathlib.Core.Path.{◌≡◌, sym, ap, ◌∙◌}
use mathlib.Core.List.{List}
use Rattle.calls.specs.Promise.{as_bytes}
use Rattle.calls.specs.Values.{decision_values, end_values, start_values, limit_values}
use Rattle.calls.proofs.OneResult.{decide_unique, ends_unique, starts_unique, ceiling_unique}
use Rattle.calls.proofs.OneTable.{Slice}
use Rattle.host.specs.declared.layout.DecisionForC.{DecisionForC}
use Rattle.host.specs.declared.layout.EndsForC.{EndsForC}
use Rattle.host.specs.declared.layout.StartsForC.{StartsForC}
use Rattle.host.specs.declared.layout.CeilingForC.{CeilingForC}
use Rattle.host.specs.Layout.{decision_of, ends_of, starts_of, ceiling_of}
use Rattle.host.specs.ForC.{DecidedForC, EndedForC, StartedForC, LimitedForC}

-- a and n are the two tables and m the room or the third table, as lent and as left by one call or by another
module _ {s r a n m a₁ n₁ m₁ a₂ n₂ m₂ : List ℕ} where
  pub decide_one : {z v : ℕ} {x y : DecisionForC} → DecidedForC s r z v a n m a₁ n₁ m₁ x → DecidedForC s r z v a n m a₂ n₂ m₂ y →
      Slice as_bytes n₁ → Slice as_bytes n₂ → (x ≡ y) × (a₁ ≡ a₂) × (n₁ ≡ n₂) × (m₁ ≡ m₂)
  decide_one p q i j =
      let (same, asked, numbers, last) = decide_unique p.promised q.promised i j in
      (p.laid ∙ ap (λ d. decision_of (decision_values d)) same ∙ sym q.laid, asked, numbers, last)

  pub ends_one : {z : ℕ} {x y : EndsForC} → EndedForC s r z a n m a₁ n₁ m₁ x → EndedForC s r z a n m a₂ n₂ m₂ y →
      Slice as_bytes n₁ → Slice as_bytes n₂ → (x ≡ y) × (a₁ ≡ a₂) × (n₁ ≡ n₂) × (m₁ ≡ m₂)
  ends_one p q i j =
      let (same, asked, numbers, last) = ends_unique p.promised q.promised i j in
      (p.laid ∙ ap (λ l. ends_of (end_values l)) same ∙ sym q.laid, asked, numbers, last)

  pub starts_one : {v : ℕ} {x y : StartsForC} → StartedForC s r v a n m a₁ n₁ m₁ x → StartedForC s r v a n m a₂ n₂ m₂ y →
      Slice as_bytes n₁ → Slice as_bytes n₂ → (x ≡ y) × (a₁ ≡ a₂) × (n₁ ≡ n₂) × (m₁ ≡ m₂)
  starts_one p q i j =
      let (same, asked, numbers, last) = starts_unique p.promised q.promised i j in
      (p.laid ∙ ap (λ l. starts_of (start_values l)) same ∙ sym q.laid, asked, numbers, last)

pub ceiling_one : {s r : List ℕ} {x y : CeilingForC} → LimitedForC s r x → LimitedForC s r y → x ≡ y
ceiling_one p q = p.laid ∙ ap (λ l. ceiling_of (limit_values l)) (ceiling_unique p.promised q.promised) ∙ sym q.laid
