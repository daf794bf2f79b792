-- Lists read as finite sets, and tests over them that the checker computes.
-- Each law says what it is to be a member, or what it is that a test passes.
use Prim.Native.Nat.{ℕ, zero, suc, ◌<◌}
use native.Mathlib.Nat.{not-suc-le-zero}
use native.Mathlib.Omega.{arith}
use native.Mathlib.Decide.{ℕ_discrete}
use mathlib.Core.Path.{◌≡◌, refl, subst, sym}
use mathlib.Core.Bool.{Bool, true, false, cond, ◌&&◌, ◌||◌}
use mathlib.Core.Logic.Iff
use mathlib.Core.Logic.{◌⊎◌, inl, inr, ◌↔◌, ⊎_elim, ⊎_map}
use mathlib.Core.List.Memᴰ
use mathlib.Core.List.{List, [], ◌∷◌, ◌++◌, flat_map, Memᴰ}
use lib.Dec.{T, eqb, eqb→eq, eqb_refl}
use Rattle.meaning.specs.Question.{Different, empty, more}

infix 40 ◌∈◌
abbrev pub ◌∈◌ : {A : Type 0} → A → List A → Type 0
x ∈ l = Memᴰ x l

pub ⊎-right : {A B C D : Type 0} → A ↔ C → B ↔ D → (A ⊎ B) ↔ (C ⊎ D)
⊎-right p q = (⊎_map p.0 q.0, ⊎_map p.1 q.1)

-- a test joined of two is right where each of them is
pub both_right : (a b : Bool) {P Q : Type 0} → (T a ↔ P) → (T b ↔ Q) → T (a && b) ↔ (P × Q)
both_right true b p q = (λ h. (p.0 tt, q.0 h), λ h. q.1 h.1)
both_right false b p q = (λ h. absurd h, λ h. p.1 h.0)

pub both_pass : (a b : Bool) → T (a && b) → T a × T b
both_pass a b = (both_right a b Iff.rfl Iff.rfl).0

pub all_pass : (a b c : Bool) → T (a && b && c) → T a × T b × T c
all_pass a b c h = let (p, q) = both_pass (a && b) c h in ((both_pass a b p).0, (both_pass a b p).1, q)

pub either_right : (a b : Bool) {P Q : Type 0} → (T a ↔ P) → (T b ↔ Q) → T (a || b) ↔ (P ⊎ Q)
either_right true b p q = (λ h. inl (p.0 tt), λ h. tt)
either_right false b p q = (λ h. inr (q.0 h), λ h. ⊎_elim (λ n. absurd (p.1 n)) q.1 h)

pub eqb_right : (m n : ℕ) → T (eqb m n) ↔ (m ≡ n)
eqb_right m n = (eqb→eq m n, λ e. subst (λ k. T (eqb m k)) e (eqb_refl m))

-- the numbers below n
unfoldable pub below : ℕ → List ℕ
below zero = []
below (suc n) = n ∷ below n

pub below_less : (n : ℕ) {k : ℕ} → k ∈ below n → k < n
unfolding below
below_less zero m = absurd (Memᴰ.not-nil m)
below_less (suc n) (Memᴰ.head e) = omega arith
below_less (suc n) (Memᴰ.tail m) = let h = below_less n m in omega arith

pub less_below : (n : ℕ) {k : ℕ} → k < n → k ∈ below n
unfolding below
less_below zero h = absurd (not-suc-le-zero h)
less_below (suc n) {k} h = elim (ℕ_discrete k n) [ yes e ↦ Memᴰ.head e | no q ↦ Memᴰ.tail (less_below n (omega arith)) ]

-- x, if the test passes
unfoldable pub given : {A : Type 0} → Bool → A → List A
given true x = x ∷ []
given false x = []

pub in_given : {A : Type 0} (b : Bool) {x y : A} → (y ∈ given b x) ↔ (T b × (y ≡ x))
unfolding given
in_given true = (λ m. (tt, Memᴰ.eq_of_singleton m), λ h. Memᴰ.head h.1)
in_given false = (λ m. absurd (Memᴰ.not-nil m), λ h. absurd h.0)

-- membership, form by form
pub in_cons : {A : Type 0} {x y : A} {l : List A} {P : Type 0} → ((y ∈ l) ↔ P) → (y ∈ x ∷ l) ↔ ((y ≡ x) ⊎ P)
in_cons p = (
  λ m. ⊎_map (λ e. e) p.0 (Memᴰ.cases_cons m),
  λ h. ⊎_elim (λ e. Memᴰ.head e) (λ m. Memᴰ.tail (p.1 m)) h,
)

pub in_append : {A : Type 0} (k l : List A) {x : A} → (x ∈ k ++ l) ↔ ((x ∈ k) ⊎ (x ∈ l))
in_append k l = (λ m. Memᴰ.append_cases k m, λ h. ⊎_elim (Memᴰ.append_left l) (Memᴰ.append_right k) h)

pub in_flat_map : {A B : Type 0} (f : A → List B) {x : A} {l : List A} {y : B} → x ∈ l → y ∈ f x → y ∈ flat_map f l
unfolding flat_map
in_flat_map f {y} (Memᴰ.head {xs = l} e) m = Memᴰ.append_left (flat_map f l) (subst (λ z. y ∈ f z) e m)
in_flat_map f (Memᴰ.tail {x = a} h) m = Memᴰ.append_right (f a) (in_flat_map f h m)

pub of_flat_map : {A B : Type 0} (f : A → List B) (l : List A) {y : B} → y ∈ flat_map f l → (x : A) × (x ∈ l) × (y ∈ f x)
unfolding flat_map
of_flat_map f [] m = absurd (Memᴰ.not-nil m)
of_flat_map f (a ∷ l) m =
    ⊎_elim (λ h. (a, Memᴰ.head refl, h)) (λ h. let (x, i, j) = of_flat_map f l h in (x, Memᴰ.tail i, j))
    (Memᴰ.append_cases (f a) m)

-- a member by way of a member
pub through : {A B : Type 0} (f : A → List B) (l : List A) {y : B} {P Q : A → Type 0} →
    ((x : A) → (x ∈ l) ↔ P x) → ((x : A) → x ∈ l → (y ∈ f x) ↔ Q x) → (y ∈ flat_map f l) ↔ ((x : A) × P x × Q x)
through f l p q = (
  λ m. let (x, i, j) = of_flat_map f l m in (x, (p x).0 i, (q x i).0 j),
  λ (x, i, j). let m = (p x).1 i in in_flat_map f m ((q x m).1 j),
)

-- every member passes the test
unfoldable pub each : {A : Type 0} → (A → Bool) → List A → Bool
each p [] = true
each p (x ∷ l) = p x && each p l

pub each_right : {A : Type 0} (p : A → Bool) (l : List A) → T (each p l) → (x : A) → x ∈ l → T (p x)
unfolding each
each_right p [] h x m = absurd (Memᴰ.not-nil m)
each_right p (y ∷ l) h x m =
    let (here, rest) = both_pass (p y) (each p l) h in
    ⊎_elim (λ e. subst (λ z. T (p z)) (sym e) here) (λ n. each_right p l rest x n) (Memᴰ.cases_cons m)

-- some member passes the test
unfoldable pub some : {A : Type 0} → (A → Bool) → List A → Bool
some p [] = false
some p (x ∷ l) = p x || some p l

pub some_right : {A : Type 0} (p : A → Bool) (l : List A) → T (some p l) ↔ ((x : A) × (x ∈ l) × T (p x))
unfolding some
some_right p [] = (λ h. absurd h, λ h. absurd (Memᴰ.not-nil h.1))
some_right {A} p (y ∷ l) =
    let here : T (p y || some p l) ↔ (T (p y) ⊎ ((x : A) × (x ∈ l) × T (p x))) = either_right (p y) (some p l) Iff.rfl (some_right p l) in (
      λ h. ⊎_elim (λ t. (y, Memᴰ.head refl, t)) (λ r. (r.0, Memᴰ.tail r.1, r.2)) (here.0 h),
      λ h. here.1 (⊎_elim (λ e. inl (subst (λ z. T (p z)) e h.2)) (λ m. inr (h.0, m, h.2)) (Memᴰ.cases_cons h.1)),
    )

-- a test of whether two are the same
pub record Sameness (A : Type 0) : Type 0 where
  pub test : A → A → Bool
  pub right : (x y : A) → T (test x y) ↔ (x ≡ y)

module _ {A : Type 0} (same : Sameness A) where
  -- x is a member
  unfoldable pub has : A → List A → Bool
  has x l = some (same.test x) l

  pub has_right : (x : A) (l : List A) → T (has x l) ↔ (x ∈ l)
  unfolding has
  has_right x l = (
    λ h. let (y, m, t) = (some_right (same.test x) l).0 h in Memᴰ.cast ((same.right x y).0 t) m,
    λ m. (some_right (same.test x) l).1 (x, m, (same.right x x).1 refl),
  )

  -- the same members, each once
  unfoldable pub unrepeated : List A → List A
  unrepeated [] = []
  unrepeated (x ∷ l) = let k = unrepeated l in cond (has x k) k (x ∷ k)

  add_different : (b : Bool) {x : A} {k : List A} → (T b ↔ (x ∈ k)) → Different k → Different (cond b k (x ∷ k))
  add_different true h d = d
  add_different false h d = more h.1 d

  pub unrepeated_different : (l : List A) → Different (unrepeated l)
  unfolding unrepeated
  unrepeated_different [] = empty
  unrepeated_different (x ∷ l) = add_different (has x (unrepeated l)) (has_right x (unrepeated l)) (unrepeated_different l)

  add_members : (b : Bool) {x y : A} {k : List A} → (T b ↔ (x ∈ k)) → (y ∈ cond b k (x ∷ k)) ↔ (y ∈ x ∷ k)
  add_members true h = (λ m. Memᴰ.tail m, λ m. ⊎_elim (λ e. Memᴰ.cast e (h.0 tt)) (λ n. n) (Memᴰ.cases_cons m))
  add_members false h = Iff.rfl

  pub unrepeated_members : (l : List A) {y : A} → (y ∈ unrepeated l) ↔ (y ∈ l)
  unfolding unrepeated
  unrepeated_members [] = Iff.rfl
  unrepeated_members (x ∷ l) =
      Iff.trans (add_members (has x (unrepeated l)) (has_right x (unrepeated l)))
      (Iff.trans (in_cons (unrepeated_members l)) (Iff.symm (in_cons Iff.rfl)))
