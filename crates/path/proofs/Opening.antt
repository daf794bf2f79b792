-- How records are opened: one by one, one opening after another, and told in more ways than one.
-- A record is open where it is not shut, so fewer are shut whenever one is opened.
use Prim.Native.Nat.{ℕ, ◌<◌}
use mathlib.Core.Path.{◌≡◌, sym, ◌∙◌}
use mathlib.Core.Logic.{◌⊎◌, inl, inr, ⊎_elim}
use mathlib.Core.Bool.{Bool, true, false, cond}
use mathlib.Core.List.{List}
use native.Mathlib.Omega.{arith}
use native.Mathlib.Decide.{ℕ_discrete, dec_lt}
use lib.ListN.{length, get_or, set, replicate, get_or-replicate, get_or-eq_default}
use lib.Seq.{get_or-set_other}
use Rattle.std.proofs.lemmas.List.Sums.{sum_by-set}
use Rattle.meaning.specs.Limits.{records}
use Rattle.fewest.proofs.Sweeps.{Chain, swept_none, swept_changed, swept_then, swept_weaken, swept_lift}
use Rattle.path.specs.Flags.{Open, closed, Opens, Opening}

pub opens_chain : (P : ℕ → Type 0) → Chain closed (Opens P)
opens_chain P = record {
  stays = λ X. record { only = λ b. inl; fewer = omega arith };
  joins = λ X Y Z p q. record {
    only = λ b h. ⊎_elim (p.only b) inr (q.only b h);
    fewer = let l = p.fewer in let m = q.fewer in omega arith;
  };
  falls = λ X Y p. p.fewer;
}

pub opens_more : {P Q : ℕ → Type 0} {X Y : List Bool} → ((b : ℕ) → P b → Q b) → Opens P X Y → Opens Q X Y
opens_more f p = record { only = λ b h. ⊎_elim inl (λ w. inr (f b w)) (p.only b h); fewer = p.fewer }

-- Where all that P allows is open, there is nothing to do.
pub opening_none : {P : ℕ → Type 0} {X : List Bool} {was : Bool} → ((b : ℕ) → P b → Open X b) → Opening P X X was was
opening_none {P} f = swept_none (opens_chain P) f

-- what is opened may be told otherwise
pub opening_as : {P Q : ℕ → Type 0} {X Y : List Bool} {was now : Bool} → ((b : ℕ) → P b → Q b) → ((b : ℕ) → Q b → P b) →
    Opening P X Y was now → Opening Q X Y was now
opening_as f g p = swept_weaken (λ h b q. h b (g b q)) (swept_lift (opens_more f) p)

-- one opening after another
pub opening_then : {P Q : ℕ → Type 0} {X Y Z : List Bool} {a b c : Bool} → Opening P X Y a b → Opening Q Y Z b c → Opening (λ i. P i ⊎ Q i) X Z a c
opening_then {P} {Q} p q =
    swept_weaken (λ h i. ⊎_elim (h.0 i) (h.1 i))
    (swept_then (opens_chain (λ i. P i ⊎ Q i)) (swept_lift (opens_more (λ i. inl)) p) (swept_lift (opens_more (λ i. inr)) q))

-- a record that is shut counts
counts : {x : Bool} → x ≡ true → ◌≡◌ {A = ℕ} (cond x 1 0) 1
counts e = rw e

-- one fewer is shut once one that was shut is opened
closed_falls : (X : List Bool) (b : ℕ) → get_or X b false ≡ true → closed (set X b false) < closed X
unfolding closed
closed_falls X b e = elim (dec_lt b (length X)) [
  | yes h ↦ omega (arith, sum_by-set (λ x. cond x 1 0) X b false false h, counts e)
  | no h ↦ let d = get_or-eq_default X false {n = b} (omega arith) in let z : ◌≡◌ {A = ℕ} 0 1 = cc in absurd (omega arith)
]

-- One record: it was open, or it is now.
module _ (X : List Bool) {b : ℕ} {was : Bool} (inside : b < records) where
  pub mark_was : get_or X b false ≡ false → Opening (λ c. c ≡ b) X X was was
  mark_was e = opening_none (λ c q. rw q (record { inside = inside; clear = e }))

  pub mark_now : get_or X b false ≡ true → Opening (λ c. c ≡ b) X (set X b false) was true
  mark_now n = swept_changed (record {
    only = λ c h. elim (ℕ_discrete c b) [ yes e ↦ inr e | no e ↦ inl (record { inside = h.inside; clear = sym (get_or-set_other X b c false false e) ∙ h.clear }) ];
    fewer = omega (arith, falls);
  }) falls
    where
      falls : closed (set X b false) < closed X
      falls = closed_falls X b n

-- Where every record is shut, nothing is open.
pub all_shut : (b : ℕ) → Open (replicate records true) b → ⊥
all_shut b o = let e = get_or-replicate {A = Bool} records b true false o.inside in let c = o.clear in let z : ◌≡◌ {A = ℕ} 0 1 = cc in omega arith
