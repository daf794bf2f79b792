-- A loop over the table is a sweep by index: of a table that it left unchanged holds what was seen at each index passed.
-- A loop is begun and carried on by two laws; it ends by `swept_weaken`, from every index seen to the whole. Sweeps that are
-- repeated until one changes nothing have two laws more.
use Prim.Native.Nat.{ℕ, ◌+◌, ◌<◌}
use mathlib.Core.Path.{◌≡◌}
use mathlib.Core.Bool.{Bool, true, false}
use mathlib.Core.Logic.{⊎_elim}
use native.Mathlib.Omega.{arith}
use borrow.Author.Count.{below_none, below_more}
use Rattle.fewest.specs.Sweep.{Swept}
use Rattle.fewest.proofs.Sweeps.{Chain, swept_none, swept_then, swept_weaken}

-- the sweep has seen Q at each index below k
abbrev pub Seen : {A : Type 0} (μ : A → ℕ) (R : A → A → Type 0) (Q : ℕ → A → Type 0) (k : ℕ) (T U : A) (was now : Bool) → Type 0
Seen μ R Q k T U was now = Swept μ R (λ X. (j : ℕ) → j < k → Q j X) T U was now

module _ {A : Type 0} {μ : A → ℕ} {R : A → A → Type 0} (chain : Chain μ R) {Q : ℕ → A → Type 0} where
  -- nothing is seen before the first turn
  pub seen_none : {T : A} {was : Bool} → Seen μ R Q 0 T T was was
  seen_none {T} = swept_none chain (below_none (λ j. Q j T))

  -- a turn sees one index more
  pub seen_more : {k : ℕ} {T U W : A} {a b c : Bool} → Seen μ R Q k T U a b → Swept μ R (Q k) U W b c → Seen μ R Q (k + 1) T W a c
  seen_more {k} {T} p q = swept_weaken (λ h. below_more (λ j. Q j T) k h.0 h.1) (swept_then chain p q)

module _ {A : Type 0} {μ : A → ℕ} {R : A → A → Type 0} {Q : A → Type 0} {T U : A} {now : Bool} (p : Swept μ R Q T U false now) where
  -- where a change is told, the measure fell
  pub swept_fell : now ≡ true → μ U < μ T
  swept_fell e = ⊎_elim (λ f. let z : ◌≡◌ {A = ℕ} 0 1 = cc in absurd (omega arith)) (λ l. l) (p.falls e)

  -- where none is told, Q holds of what is left
  pub swept_still : now ≡ false → Q U
  swept_still e = let (was, same, q) = p.still e in rw same q
