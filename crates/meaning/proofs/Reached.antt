-- One or more rounds, computed: a list grows by the ends of its members for as long as there is fuel.
-- Whether it has come to be closed is a test; where it passes, the list holds all that is reached.
use Prim.Native.Nat.{ℕ, zero, suc}
use mathlib.Core.Bool.{Bool}
use mathlib.Core.Logic.{⊎_elim}
use mathlib.Core.List.Memᴰ
use mathlib.Core.List.{List, ◌++◌, flat_map}
use lib.Dec.{T}
use Rattle.meaning.specs.Relation.{Plus, once, then}
use Rattle.meaning.proofs.Rounds.{plus_then_once}
use Rattle.meaning.proofs.Listed.{◌∈◌, of_flat_map, each, each_right, Sameness, has, has_right, unrepeated, unrepeated_members}

module _ {A : Type 0} (same : Sameness A) (f : A → List A) where
  grown : ℕ → List A → List A
  grown zero l = l
  grown (suc n) l = grown n (unrepeated same (l ++ flat_map f l))

  grown_keeps : (n : ℕ) (l : List A) {x : A} → x ∈ l → x ∈ grown n l
  unfolding grown
  grown_keeps zero l m = m
  grown_keeps (suc n) l m =
      grown_keeps n (unrepeated same (l ++ flat_map f l)) ((unrepeated_members same (l ++ flat_map f l)).1 (Memᴰ.append_left (flat_map f l) m))

  -- what holds at the members, and after a round wherever it held before it, holds at all that is reached
  grown_holds : (P : A → Type 0) → ((x y : A) → P x → y ∈ f x → P y) →
      (n : ℕ) (l : List A) → ((x : A) → x ∈ l → P x) → (x : A) → x ∈ grown n l → P x
  unfolding grown
  grown_holds P on zero l h x m = h x m
  grown_holds P on (suc n) l h x m =
      grown_holds P on n (unrepeated same (l ++ flat_map f l))
      (λ y i.
      ⊎_elim (h y) (λ j. let (z, k, e) = of_flat_map f l j in on z y (h z k) e)
      (Memᴰ.append_cases l ((unrepeated_members same (l ++ flat_map f l)).0 i)))
      x m

  -- what one or more rounds reach from t
  unfoldable pub rounds : ℕ → A → List A
  unfolding grown
  rounds n t = grown n (f t)

  -- the ends of each member are members
  unfoldable pub closed : List A → Bool
  closed l = each (λ x. each (λ y. has same y l) (f x)) l

  closed_in : {l : List A} → T (closed l) → {x y : A} → x ∈ l → y ∈ f x → y ∈ l
  unfolding closed
  closed_in {l} c {x} {y} m i =
      let ends_in : T (each (λ z. has same z l) (f x)) = each_right (λ x. each (λ z. has same z l) (f x)) l c x m in
      (has_right same y l).0 (each_right (λ z. has same z l) (f x) ends_in y i)

  module _ {R : A → A → Type 0} where
    -- what is listed is reached
    pub rounds_sound : ((x y : A) → y ∈ f x → R x y) → (n : ℕ) {t u : A} → u ∈ rounds n t → Plus R t u
    unfolding rounds
    rounds_sound sound n {t} {u} m =
        grown_holds (Plus R t) (λ x y p i. plus_then_once p (sound x y i)) n (f t) (λ x i. once (sound t x i)) u m

    closed_whole : {l : List A} → T (closed l) → ((x y : A) → x ∈ l → R x y → y ∈ f x) → {x y : A} → x ∈ l → Plus R x y → y ∈ l
    closed_whole c whole m (once r) = closed_in c m (whole _ _ m r)
    closed_whole c whole m (then r p) = closed_whole c whole (closed_in c m (whole _ _ m r)) p

    -- what is reached is listed, where the list is closed and the ends are whole at t and at its members
    pub rounds_whole : (n : ℕ) {t : A} → T (closed (rounds n t)) → ((y : A) → R t y → y ∈ f t) →
        ((x y : A) → x ∈ rounds n t → R x y → y ∈ f x) → {u : A} → Plus R t u → u ∈ rounds n t
    unfolding rounds
    rounds_whole n {t} c first whole (once r) = grown_keeps n (f t) (first _ r)
    rounds_whole n {t} c first whole (then r p) = closed_whole c whole (grown_keeps n (f t) (first _ r)) p
