-- The first step of a way: free moves lead to a step record, and a triple takes it to a term.
-- The record and the triple decide the state after the step, for a record names one node of its rule.
use Prim.Native.Nat.{ℕ}
use mathlib.Core.Path.{◌≡◌, refl, ◌∙◌}
use mathlib.Core.List.{◌∷◌}
use Rattle.meaning.specs.Site.{Site}
use Rattle.meaning.specs.Move.{Move, any}
use Rattle.meaning.specs.Expression.{Expr, step, tested, sequence, choice, star, last, Context, plug}
use Rattle.meaning.specs.Relation.{Holds}
use Rattle.meaning.specs.Path.{Path, Taken, taken}
use Rattle.meaning.specs.Fewest.{Goal, State, entered, finished, Free, Way, free, by_step, by_test}
use Rattle.meaning.proofs.States.{place, rule_of, free_keeps}
use Rattle.meaning.proofs.Moves.{move_lands}
use Rattle.meaning.proofs.Ways.{holds_way}

-- free moves lead from x to where e, which stands so, is entered
pub data Opens (s : Site) : State → Expr → Context → Type 0 where
  here : {e : Expr} {K : Context} {t : ℕ} → Opens s (entered e K t) e K
  through : {x y : State} {e : Expr} {K : Context} → Free s x y → Opens s y e K → Opens s x e K

-- e is a step, and by triple k it takes t to u
abbrev pub Takes : Site → Expr → ℕ → ℕ → ℕ → Type 0
Takes s (step r a l) k t u = (m : ℕ) × Move s a l k t m u
Takes s (tested r a x) k t u = (m : ℕ) × Move s a any k t m u × Holds s x m
Takes s (sequence r a b) k t u = ⊥
Takes s (choice r a b) k t u = ⊥
Takes s (star r a) k t u = ⊥

-- from x the step e, which stands so, can be taken by triple k to u
pub record Offers (s : Site) (x : State) (e : Expr) (K : Context) (k u : ℕ) : Type 0 where
  pub opens : Opens s x e K
  pub takes : Takes s e k (place x) u

-- a step by a triple from a term lands at one term
takes_lands : (s : Site) (e : Expr) (k t u v : ℕ) → Takes s e k t u → Takes s e k t v → u ≡ v
takes_lands s (step r a l) k t u v (m, x) (n, y) = move_lands x y
takes_lands s (tested r a x) k t u v (m, y, h) (n, z, j) = move_lands y z
takes_lands s (sequence _ _ _) k t u v x _ = elim x [ ]
takes_lands s (choice _ _ _) k t u v x _ = elim x [ ]
takes_lands s (star _ _) k t u v x _ = elim x [ ]

-- what free moves lead to stands in the same rule
pub opens_rule : {s : Site} {x : State} {e : Expr} {K : Context} → Opens s x e K → plug e K ≡ rule_of x
opens_rule here = refl
opens_rule (through f o) = opens_rule o ∙ (free_keeps f).1

module _ {s : Site} {g : Goal} where
  takes_way : (e : Expr) {K : Context} (k t : ℕ) {u : ℕ} {p : Path} → Takes s e k t u →
      Way s g (finished e K u) p → Way s g (entered e K t) (taken (last e) k u ∷ p)
  takes_way (step r a l) k t (m, move) w = by_step move w
  takes_way (tested r a x) {K} k t (m, move, holds) w = by_test move ((holds_way s g r a x K m).0 holds).1 w
  takes_way (sequence _ _ _) k t x w = elim x [ ]
  takes_way (choice _ _ _) k t x w = elim x [ ]
  takes_way (star _ _) k t x w = elim x [ ]

  opens_way : {x : State} {e : Expr} {K : Context} {p : Path} → Opens s x e K → Way s g (entered e K (place x)) p → Way s g x p
  opens_way here w = w
  opens_way (through f o) w = free f (opens_way o (rw (← (free_keeps f).0) at w))

  -- a step that can be taken, and a way from where it leads, are a way
  pub offers_way : {x : State} {e : Expr} {K : Context} {k u : ℕ} {p : Path} → Offers s x e K k u →
      Way s g (finished e K u) p → Way s g x (taken (last e) k u ∷ p)
  offers_way {x} {e} {k} l w = opens_way l.opens (takes_way e k (place x) l.takes w)

  -- every way that has a step is one that can be taken and a way from where it leads
  pub first_step : {x : State} {y : Taken} {p : Path} → Way s g x (y ∷ p) →
      (e : Expr) × (K : Context) × (k u : ℕ) × Offers s x e K k u × (y ≡ taken (last e) k u) × Way s g (finished e K u) p
  first_step (free f w) =
      let (e, K, k, u, l, eq, rest) = first_step w in
      (e, K, k, u, record { opens = through f l.opens; takes = rw (← (free_keeps f).0) l.takes }, eq, rest)
  first_step (by_step {r = r} {a = a} {l = l} {K = K} {k = k} {m = m} {u = u} move w) =
      (step r a l, K, k, u, record { opens = here; takes = (m, move) }, refl, w)
  first_step (by_test {r = r} {a = a} {x = x} {K = K} {k = k} {m = m} {u = u} {q = q} move inner w) =
      (tested r a x, K, k, u, record { opens = here; takes = (m, move, (holds_way s g r a x K m).1 (q, inner)) }, refl, w)

-- a record of the rule names one node of it
abbrev pub OneNode : Expr → Type 0
OneNode rule = (e f : Expr) (K L : Context) → plug e K ≡ rule → plug f L ≡ rule → last e ≡ last f → (e ≡ f) × (K ≡ L)

-- a record and a triple lead from a state of the rule to one state
pub offers_one : (rule : Expr) → OneNode rule → {s : Site} {x : State} → rule_of x ≡ rule → {e f : Expr} {K L : Context} {k j u v : ℕ} →
    Offers s x e K k u → Offers s x f L j v → last e ≡ last f → k ≡ j → finished e K u ≡ finished f L v
offers_one rule one_node {s} {x} of-rule {e} {f} {K} {L} {k} {j} {u} {v} one other by over =
    let (node, context) = one_node e f K L (opens_rule one.opens ∙ of-rule) (opens_rule other.opens ∙ of-rule) by in
    let lands = takes_lands s e k (place x) u v one.takes (rw (node, over) other.takes) in
    cc
