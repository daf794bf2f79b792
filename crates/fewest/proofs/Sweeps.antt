-- How sweeps are put together: one after another, and as parts of a larger one.
-- Every loop over the table is such a chain, whatever its order of work.
use Prim.Native.Nat.{ℕ, ◌<◌, ◌≤◌}
use mathlib.Core.Path.{◌≡◌, refl, subst, ◌∙◌}
use mathlib.Core.Bool.{Bool, true}
use mathlib.Core.Logic.{◌⊎◌, inl, inr, ⊎_elim}
use mathlib.Core.List.{List}
use native.Mathlib.Omega.{arith}
use lib.ListN.{set}
use Rattle.meaning.specs.Limits.{terms}
use Rattle.meaning.specs.Expression.{Rec}
use Rattle.fewest.specs.Frame.{Frame}
use Rattle.fewest.specs.Offer.{place, view, Work, Offer, Lowers, stay, lower, Settles, rest, work}
use Rattle.fewest.specs.Sweep.{sum, Swept}
use Rattle.fewest.proofs.Bound.{sum_falls}

-- what a sweep may do, it may do for no work or twice, and the measure never grows by it
pub record Chain {A : Type 0} (μ : A → ℕ) (R : A → A → Type 0) : Type 0 where
  pub stays : (T : A) → R T T
  pub joins : (T U W : A) → R T U → R U W → R T W
  pub falls : (T U : A) → R T U → μ U ≤ μ T

module _ {F : Frame} {w : Work} {r : ℕ} where
  pub lowers_then : {T U W : List ℕ} → Lowers F w r T U → Lowers F w r U W → Lowers F w r T W
  lowers_then p stay = p
  lowers_then p (lower q h o l) = lower (lowers_then p q) h o l

  pub lowers_falls : {T U : List ℕ} → Lowers F w r T U → sum U ≤ sum T
  unfolding view
  lowers_falls stay = omega arith
  lowers_falls (lower {U} q h o l) = omega (arith, lowers_falls q, sum_falls U _ _ l)

  pub lowers_chain : Chain sum (Lowers F w r)
  lowers_chain = record { stays = λ T. stay; joins = λ T U W. lowers_then; falls = λ T U. lowers_falls }

module _ {F : Frame} {rs : List Rec} {first : List ℕ} where
  pub settles_then : {T U W : List ℕ} → Settles F rs first T U → Settles F rs first U W → Settles F rs first T W
  settles_then p rest = p
  settles_then p (work q h i l) = work (settles_then p q) h i l

  pub settles_falls : {T U : List ℕ} → Settles F rs first T U → sum U ≤ sum T
  settles_falls rest = omega arith
  settles_falls (work q h i l) = omega (arith, settles_falls q, lowers_falls l)

  pub settles_chain : Chain sum (Settles F rs first)
  settles_chain = record { stays = λ T. rest; joins = λ T U W. settles_then; falls = λ T U. settles_falls }

module _ {A : Type 0} {μ : A → ℕ} {R : A → A → Type 0} where
  -- no work changes nothing
  pub swept_none : Chain μ R → {Q : A → Type 0} {T : A} {was : Bool} → Q T → Swept μ R Q T T was was
  swept_none c {T = T} q = record { reached = c.stays T; still = λ e. (e, refl, q); falls = inl }

  -- a change is told
  pub swept_changed : {Q : A → Type 0} {T U : A} {was : Bool} → R T U → μ U < μ T → Swept μ R Q T U was true
  swept_changed r l = record {
    reached = r;
    still = λ e. let z : ◌≡◌ {A = ℕ} 0 1 = cc in absurd (omega arith);
    falls = λ e. inr l;
  }

  -- one sweep after another: if neither changed anything, what holds of both holds of the table that they began with
  pub swept_then : Chain μ R → {P Q : A → Type 0} {T U W : A} {a b c : Bool} →
      Swept μ R P T U a b → Swept μ R Q U W b c → Swept μ R (λ X. P X × Q X) T W a c
  swept_then chain {P} {Q} {T} {U} {W} {a} {b} {c} p q = record {
    reached = chain.joins T U W p.reached q.reached;
    still = λ e. let (e', same, h) = q.still e in
        let (e'', same', k) = p.still e' in
        (e'', same ∙ same', (k, subst Q same' h));
    falls = λ e. ⊎_elim changed (λ l. inr (omega (arith, chain.falls T U p.reached))) (q.falls e);
  }
    where
      changed : b ≡ true → (a ≡ true) ⊎ (μ W < μ T)
      changed e = ⊎_elim inl (λ l. inr (omega (arith, chain.falls U W q.reached))) (p.falls e)

  -- what holds of an unchanged table may be said more weakly
  pub swept_weaken : {P Q : A → Type 0} {T U : A} {a b : Bool} → (P T → Q T) → Swept μ R P T U a b → Swept μ R Q T U a b
  swept_weaken f p = record {
    reached = p.reached;
    still = λ e. let (e', same, h) = p.still e in (e', same, f h);
    falls = p.falls;
  }

  -- what a part of a sweep does, the sweep does
  pub swept_lift : {S : A → A → Type 0} {Q : A → Type 0} {T U : A} {a b : Bool} → (R T U → S T U) →
      Swept μ R Q T U a b → Swept μ S Q T U a b
  swept_lift f p = record { reached = f p.reached; still = p.still; falls = p.falls }

-- What is offered and is lower is stored, and that is told.
pub swept_lower : {F : Frame} {w : Work} {r t v : ℕ} {Q : List ℕ → Type 0} (T : List ℕ) {was : Bool} → t < terms → Offer F T r t w v →
    v < view T r t → Swept sum (Lowers F w r) Q T (set T (place r t) v) was true
unfolding view
swept_lower {r = r} {t} {v} T b o l = swept_changed (lower stay b o l) (sum_falls T (place r t) v l)
