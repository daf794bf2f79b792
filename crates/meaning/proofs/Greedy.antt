-- The path shown is one path, and it is found step by step: the smallest step that begins a shortest way begins it.
-- What is left after a step depends on its record and the term reached alone, so the choice need never be taken back.
use Prim.Native.Nat.{ℕ, suc, ◌+◌, ◌<◌, ◌≤◌}
use mathlib.Core.Path.{◌≡◌, refl, sym}
use mathlib.Core.List.{[], ◌∷◌}
use mathlib.Core.Logic.{◌⊎◌, inl, inr, ◌↔◌}
use lib.ListN.{length}
use native.Mathlib.Nat.{eq-or-lt_of_le}
use native.Mathlib.Omega.{arith}
use Rattle.meaning.specs.Limits.{none}
use Rattle.meaning.specs.Site.{Site}
use Rattle.meaning.specs.Expression.{Expr, last, Context, whole}
use Rattle.meaning.specs.Path.{Path, Taken, taken, Conforms}
use Rattle.meaning.specs.Shown.{Before, by_record, by_triple, by_rest, Shown}
use Rattle.meaning.specs.Fewest.{Goal, end, State, entered, finished, Way, Fewest, attained, never}
use Rattle.meaning.proofs.None.{none_positive}
use Rattle.meaning.proofs.States.{rule_of}
use Rattle.meaning.proofs.Ways.{way_conforms, fewest_some, fewest_least, fewest_attained}
use Rattle.meaning.proofs.Offers.{Offers, offers_way, first_step, OneNode, offers_one}

-- of two paths only one comes before the other
pub before_asym : {p q : Path} → Before p q → Before q p → ⊥
before_asym (by_record h) (by_record i) = omega arith
before_asym (by_record h) (by_triple i j) = omega arith
before_asym (by_record h) (by_rest i j k) = omega arith
before_asym (by_triple g h) (by_record i) = omega arith
before_asym (by_triple g h) (by_triple i j) = omega arith
before_asym (by_triple g h) (by_rest i j k) = omega arith
before_asym (by_rest f g h) (by_record i) = omega arith
before_asym (by_rest f g h) (by_triple i j) = omega arith
before_asym (by_rest f g h) (by_rest i j k) = before_asym h k

-- the path shown is one path
pub shown_unique : {P : Path → Type 0} {p q : Path} → Shown P p → Shown P q → p ≡ q
shown_unique {p = p} {q = q} x y =
    let up = x.shortest q y.conforms in
    let down = y.shortest p x.conforms in
    elim (x.smallest q y.conforms (omega arith)) [
      | inl eq ↦ eq
      | inr before ↦ elim (y.smallest p x.conforms (omega arith)) [ inl eq ↦ sym eq | inr after ↦ absurd (before_asym before after) ]
    ]

-- the steps of the path shown are the fewest
pub shown_fewest : {P : Path → Type 0} {n : ℕ} {p : Path} → Fewest P n → Shown P p → length p ≡ n
shown_fewest {p = p} (attained q h long below least) x = let up = least p x.conforms in let down = x.shortest q h in omega arith
shown_fewest {p = p} (never eq all) x = absurd (all p x.conforms)

-- a path that has no steps is shown
pub shown_none : {P : Path → Type 0} → P [] → Shown P []
shown_none h = record { conforms = h; shortest = λ q _. omega arith; smallest = λ q _ eq. inl (empty q eq) }
  where
    empty : (q : Path) → length q ≡ length {A = Taken} [] → [] ≡ q
    empty [] eq = refl
    empty (x ∷ q) eq = absurd (omega arith)

-- where the fewest steps are none, the path that has none is shown
pub shown_end : {P : Path → Type 0} → Fewest P 0 → Shown P []
shown_end {P} fewest = go (fewest_attained fewest none_positive)
  where
    go : (p : Path) × P p × (length p ≡ 0) → Shown P []
    go ([], h, long) = shown_none h
    go (x ∷ p, h, long) = absurd (omega arith)

-- paths that are the same show the same path
pub shown_same : {P Q : Path → Type 0} → ((q : Path) → P q ↔ Q q) → {p : Path} → Shown P p → Shown Q p
shown_same same {p} x = record {
  conforms = (same p).0 x.conforms;
  shortest = λ q h. x.shortest q ((same q).1 h);
  smallest = λ q h. x.smallest q ((same q).1 h);
}

-- the path shown of the ways through the rule is the path shown of the conforming paths
pub shown_conforms : (s : Site) (rule : Expr) (t u : ℕ) {p : Path} →
    Shown (Way s (end u) (entered rule whole t)) p → Shown (λ q. Conforms s rule t q u) p
shown_conforms s rule t u x = shown_same (λ q. way_conforms s rule t q u) x

-- record r and triple k are no later than record q and triple j
abbrev pub NoLater : ℕ → ℕ → ℕ → ℕ → Type 0
NoLater r k q j = (r < q) ⊎ ((r ≡ q) × (k ≤ j))

-- The step to show from x, where n more are to follow it: n is what is left after it, and no step with as many left is earlier.
pub record Chosen (s : Site) (g : Goal) (x : State) (n : ℕ) (e : Expr) (K : Context) (k u : ℕ) : Type 0 where
  pub offered : Offers s x e K k u
  pub left : Fewest (Way s g (finished e K u)) n
  pub smallest : (f : Expr) (L : Context) (j v : ℕ) → Offers s x f L j v → Fewest (Way s g (finished f L v)) n → NoLater (last e) k (last f) j

-- what follows the first step of a shortest way is a shortest way
pub rest_fewest : {s : Site} {g : Goal} {x : State} {n : ℕ} {e : Expr} {K : Context} {k u : ℕ} {q : Path} →
    Fewest (Way s g x) (n + 1) → Offers s x e K k u → Way s g (finished e K u) q → length q ≡ n → Fewest (Way s g (finished e K u)) n
rest_fewest {e = e} {k = k} {u = u} {q = q} fewest offered w long =
    let some = (fewest_some fewest).1 (taken (last e) k u ∷ q, offers_way offered w) in
    attained q w long (omega arith) (λ o h. let least = fewest_least (taken (last e) k u ∷ o) fewest (offers_way offered h) in omega arith)

-- where steps are to be taken, there is one to choose
pub step_exists : {s : Site} {g : Goal} {x : State} {n : ℕ} → Fewest (Way s g x) (n + 1) → n + 1 < none →
    (e : Expr) × (K : Context) × (k u : ℕ) × Offers s x e K k u × Fewest (Way s g (finished e K u)) n
step_exists {s} {g} {x} {n} fewest some = go (fewest_attained fewest some)
  where
    go : (p : Path) × Way s g x p × (length p ≡ n + 1) →
        (e : Expr) × (K : Context) × (k u : ℕ) × Offers s x e K k u × Fewest (Way s g (finished e K u)) n
    go ([], w, long) = absurd (omega arith)
    go (y ∷ q, w, long) =
        let (e, K, k, u, offered, same, back) = first_step w in
        (e, K, k, u, offered, rest_fewest fewest offered back (omega arith))

-- The smallest step that begins a shortest way begins the path shown.
pub shown_step : (rule : Expr) → OneNode rule → {s : Site} {g : Goal} {x : State} → rule_of x ≡ rule →
    {n : ℕ} {e : Expr} {K : Context} {k u : ℕ} {p : Path} →
    Fewest (Way s g x) (n + 1) → Chosen s g x n e K k u → Shown (Way s g (finished e K u)) p → Shown (Way s g x) (taken (last e) k u ∷ p)
shown_step rule one_node {s} {g} {x} of-rule {n} {e} {K} {k} {u} {p} fewest chosen rest =
    record { conforms = offers_way chosen.offered rest.conforms; shortest = shorter; smallest = smaller }
  where
    long : length p ≡ n
    long = shown_fewest chosen.left rest

    shorter : (q : Path) → Way s g x q → suc (length p) ≤ length q
    shorter q w = let least = fewest_least q fewest w in omega (arith, long)

    -- a way that begins with another step is no earlier, and one that begins with this step goes on from the same state
    smaller : (q : Path) → Way s g x q → length q ≡ suc (length p) → (taken (last e) k u ∷ p ≡ q) ⊎ Before (taken (last e) k u ∷ p) q
    smaller [] w eq = absurd (omega arith)
    smaller (y ∷ q) w eq =
        let (f, L, j, v, offered, same, back) = first_step w in
        rw same (elim (chosen.smallest f L j v offered (rest_fewest fewest offered back (omega (arith, long)))) [
          | inl less ↦ inr (by_record less)
          | inr (by, over) ↦ elim (eq-or-lt_of_le over) [
            | inr less ↦ inr (by_triple by less)
            | inl over ↦
                let state = offers_one rule one_node of-rule chosen.offered offered by over in
                elim (rest.smallest q (rw state back) (omega arith)) [ inl tail ↦ inl cc | inr before ↦ inr (by_rest by over before) ]
          ]
        ])
