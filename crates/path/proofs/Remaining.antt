-- What is left by the number table, once a subexpression is finished, is the fewest steps of a way from there.
-- So the walk reads off the table, after each step, how many are to follow.
use Prim.Native.Nat.{ℕ, ◌<◌, ◌≤◌, min}
use mathlib.Core.Path.{◌≡◌, refl}
use mathlib.Core.List.{[]}
use mathlib.Core.Logic.{◌⊎◌, inl, inr, ◌↔◌, ⊎_elim}
use native.Mathlib.Omega.{arith}
use native.Mathlib.Decide.{ℕ_discrete, dec_le}
use lib.ListN.{length}
use borrow.Author.Tests.{eq-eqb, ne_eqb}
use Rattle.meaning.specs.Limits.{terms}
use Rattle.meaning.specs.Site.{Site}
use Rattle.meaning.specs.Expression.{Expr, sequence, choice, star, Context, whole, test, first_of, second_of, one_of, other_of, round_of, plug}
use Rattle.meaning.specs.Path.{Path}
use Rattle.meaning.specs.Fewest.{Goal, end, anywhere, Meets, entered, finished, sequence_on, sequence_out, one_out, other_out, round_again, round_out, Way, home, held, free, Fewest, attained, never, Numbers}
use Rattle.meaning.specs.Left.{Table, home_left, left}
use Rattle.meaning.proofs.None.{none_positive}

-- what a way from a finished subexpression goes on with
abbrev Onward : Site → Goal → Expr → Context → ℕ → Path → Type 0
Onward s g e whole u p = (p ≡ []) × Meets g u
Onward s g e (test r a K) u p = p ≡ []
Onward s g e (first_of r b K) u p = Way s g (entered b (second_of r e K) u) p
Onward s g e (second_of r a K) u p = Way s g (finished (sequence r a e) K u) p
Onward s g e (one_of r b K) u p = Way s g (finished (choice r e b) K u) p
Onward s g e (other_of r a K) u p = Way s g (finished (choice r a e) K u) p
Onward s g e (round_of r K) u p = Way s g (entered e (round_of r K) u) p ⊎ Way s g (finished (star r e) K u) p

module _ {s : Site} {g : Goal} where
  way_onward : {e : Expr} {K : Context} {u : ℕ} {p : Path} → Way s g (finished e K u) p → Onward s g e K u p
  way_onward (home meets) = (refl, meets)
  way_onward held = refl
  way_onward (free sequence_on w) = w
  way_onward (free sequence_out w) = w
  way_onward (free one_out w) = w
  way_onward (free other_out w) = w
  way_onward (free round_again w) = inl w
  way_onward (free round_out w) = inr w

  onward_way : (e : Expr) (K : Context) {u : ℕ} (p : Path) → Onward s g e K u p → Way s g (finished e K u) p
  onward_way e whole p (eq, meets) = rw eq (home meets)
  onward_way e (test r a K) p eq = rw eq held
  onward_way e (first_of r b K) p w = free sequence_on w
  onward_way e (second_of r a K) p w = free sequence_out w
  onward_way e (one_of r b K) p w = free one_out w
  onward_way e (other_of r a K) p w = free other_out w
  onward_way e (round_of r K) p (inl w) = free round_again w
  onward_way e (round_of r K) p (inr w) = free round_out w

-- paths that are the same have the same fewest steps
fewest_same : {P Q : Path → Type 0} {n : ℕ} → ((q : Path) → P q ↔ Q q) → Fewest P n → Fewest Q n
fewest_same same (attained p h long below least) = attained p ((same p).0 h) long below (λ q i. least q ((same q).1 i))
fewest_same same (never eq all) = never eq (λ q i. all q ((same q).1 i))

-- so the fewest of a way from a finished subexpression are those of what it goes on with
onward_fewest : {s : Site} {g : Goal} {u n : ℕ} (e : Expr) (K : Context) → Fewest (Onward s g e K u) n → Fewest (Way s g (finished e K u)) n
onward_fewest e K = fewest_same (λ q. (onward_way e K q, way_onward))

-- of paths of either kind the fewest steps are the smaller number
fewest_either : {P Q : Path → Type 0} {m n : ℕ} → Fewest P m → Fewest Q n → Fewest (λ q. P q ⊎ Q q) (min m n)
fewest_either {P} {Q} {m} {n} (attained p h long below least) (attained q i same under fewest) =
    let lower : (o : Path) → P o ⊎ Q o → min m n ≤ length o = λ o. ⊎_elim (λ j. omega (arith, least o j)) (λ j. omega (arith, fewest o j)) in
    elim (dec_le m n) [
      | yes k ↦ attained p (inl h) (omega arith) (omega arith) lower
      | no k ↦ attained q (inr i) (omega arith) (omega arith) lower
    ]
fewest_either (attained p h long below least) (never eq all) =
    attained p (inl h) (omega arith) (omega arith) (λ o. ⊎_elim (λ j. omega (arith, least o j)) (λ j. absurd (all o j)))
fewest_either (never eq all) (attained q i same under fewest) =
    attained q (inr i) (omega arith) (omega arith) (λ o. ⊎_elim (λ j. absurd (all o j)) (λ j. omega (arith, fewest o j)))
fewest_either (never eq all) (never same every) = never (omega arith) (λ o. ⊎_elim (all o) (every o))

-- at the rule's own finish a path with no steps is left, or none
home_fewest : (g : Goal) (u : ℕ) → Fewest (λ p. (p ≡ []) × Meets g u) (home_left g u)
home_fewest (end v) u = elim (ℕ_discrete u v) [
  | yes e ↦ rw (eq-eqb u v e) (attained [] (refl, e) refl none_positive (λ q h. omega arith))
  | no e ↦ rw (ne_eqb u v e) (never refl (λ q h. e h.1))
]
home_fewest anywhere u = attained [] (refl, tt) refl none_positive (λ q h. omega arith)

module _ {s : Site} {g : Goal} {rule : Expr} (n : Table) (numbers : Numbers s g rule n) where
  -- In the number table what is left is the fewest steps of a way from where a subexpression is finished.
  pub left_fewest : (e : Expr) (K : Context) → plug e K ≡ rule → (u : ℕ) → u < terms → Fewest (Way s g (finished e K u)) (left n g e K u)
  unfolding Numbers
  left_fewest e whole p u b = onward_fewest e whole (home_fewest g u)
  left_fewest e (test r a K) p u b = onward_fewest e (test r a K) (attained [] refl refl none_positive (λ q h. omega arith))
  left_fewest e (first_of r c K) p u b = onward_fewest e (first_of r c K) (numbers c (second_of r e K) p u b)
  left_fewest e (second_of r a K) p u b = onward_fewest e (second_of r a K) (left_fewest (sequence r a e) K p u b)
  left_fewest e (one_of r c K) p u b = onward_fewest e (one_of r c K) (left_fewest (choice r e c) K p u b)
  left_fewest e (other_of r a K) p u b = onward_fewest e (other_of r a K) (left_fewest (choice r a e) K p u b)
  left_fewest e (round_of r K) p u b =
      onward_fewest e (round_of r K) (fewest_either (numbers e (round_of r K) p u b) (left_fewest (star r e) K p u b))
