-- The laws of Different and Count, for the work figure and for every number of different things.
-- Counts are made from smaller ones: of nothing, of one, of two kinds that exclude one another, number by number.
use Prim.Native.Nat.{ℕ, zero, suc, ◌+◌, ◌*◌, ◌<◌, ◌≤◌, zero-le, suc-le-suc}
use mathlib.Core.Path.{◌≡◌, refl, sym, ◌∙◌, ap, subst}
use mathlib.Core.List.Memᴰ
use mathlib.Core.List.{
  List,
  [],
  ◌∷◌,
  ◌++◌,
  map,
  Memᴰ,
}
use mathlib.Core.Logic.{◌⊎◌, inl, inr, ⊎_elim, ⊎_map, ◌↔◌}
use native.Mathlib.Decide.{ℕ_discrete, dec_lt}
use native.Mathlib.Nat.{add-zero, add-suc, suc-mul, zero-mul, le_antisymm, le_refl}
use native.Mathlib.Omega.{arith}
use lib.ListN.{length, length-append, length-map}
use Rattle.meaning.specs.Question.{Question, question, Different, empty, more, Count, Tells}

module _ {A : Type 0} where
  -- a list without one occurrence of a member: whatever else stands in the list stands there still
  without : {x : A} {l : List A} → Memᴰ x l →
      (k : List A) × (length l ≡ suc (length k)) × ((y : A) → Memᴰ y l → (y ≡ x) ⊎ Memᴰ y k)
  without (Memᴰ.head {xs = k} e) = (k, refl, λ y i. ⊎_elim (λ f. inl (f ∙ sym e)) inr (Memᴰ.cases_cons i))
  without (Memᴰ.tail {x = z} i) =
      let (k, e, kept) = without i in
      (z ∷ k, ap suc e, λ y j. ⊎_elim (λ f. inr (Memᴰ.head f)) (λ h. ⊎_map (λ f. f) Memᴰ.tail (kept y h)) (Memᴰ.cases_cons j))

  -- A list in which nothing stands twice is not longer than a list in which all its members stand.
  pub fewer : {l m : List A} → Different l → ((x : A) → Memᴰ x l → Memᴰ x m) → length l ≤ length m
  fewer empty h = zero-le
  fewer (more {x = x} new d) h =
      let (k, e, rest) = without (h x (Memᴰ.head refl)) in
      rw e (suc-le-suc (fewer {m = k} d (λ y i. ⊎_elim (λ f. absurd (new (Memᴰ.cast (sym f) i))) (λ j. j) (rest y (h y (Memᴰ.tail i))))))

  different_append : {l m : List A} → Different l → Different m → ((x : A) → Memᴰ x l → Memᴰ x m → ⊥) → Different (l ++ m)
  different_append empty e apart = e
  different_append (more {x = x} {l = l} new d) e apart =
      more (λ i. ⊎_elim new (apart x (Memᴰ.head refl)) (Memᴰ.append_cases l i))
      (different_append d e (λ y i. apart y (Memᴰ.tail i)))

  different_map : {B : Type 0} (f : A → B) → ((x y : A) → f x ≡ f y → x ≡ y) → {l : List A} → Different l → Different (map f l)
  different_map f one empty = empty
  different_map f one (more {x = x} {l = l} new d) =
      more (λ i. let (y, j, e) = Memᴰ.of_map f l i in new (Memᴰ.cast (one x y (sym e)) j)) (different_map f one d)

module _ {A : Type 0} {P Q : A → Type 0} {m n : ℕ} where
  -- What implies a thing is not more often so.
  pub count_below : Count P m → Count Q n → ((x : A) → P x → Q x) → m ≤ n
  count_below c d h =
      let l = fewer c.different (λ x i. (d.exactly x).1 (h x ((c.exactly x).0 i))) in
      omega arith

  -- Two kinds that exclude one another are counted together by adding.
  pub count_either : Count P m → Count Q n → ((x : A) → P x → Q x → ⊥) → Count (λ x. P x ⊎ Q x) (m + n)
  count_either c d apart = record {
    list = c.list ++ d.list;
    different = different_append c.different d.different (λ x i j. apart x ((c.exactly x).0 i) ((d.exactly x).0 j));
    exactly = λ x. (
      λ i. ⊎_map (c.exactly x).0 (d.exactly x).0 (Memᴰ.append_cases c.list i),
      ⊎_elim (λ p. Memᴰ.append_left d.list ((c.exactly x).1 p)) (λ q. Memᴰ.append_right c.list ((d.exactly x).1 q)),
    );
    long = simp (length-append, c.long, d.long);
  }

module _ {A : Type 0} {P Q : A → Type 0} where
  -- What is so of the same things is so as often.
  pub count_same : {n : ℕ} → Count P n → ((x : A) → P x ↔ Q x) → Count Q n
  count_same c h = record {
    list = c.list;
    different = c.different;
    exactly = λ x. (λ i. (h x).0 ((c.exactly x).0 i), λ q. (c.exactly x).1 ((h x).1 q));
    long = c.long;
  }

module _ {A : Type 0} {P : A → Type 0} where
  -- There is one number of different things, however they are listed.
  pub count_unique : {m n : ℕ} → Count P m → Count P n → m ≡ n
  count_unique c d = le_antisymm (count_below c d (λ x p. p)) (count_below d c (λ x p. p))

  -- What is never so is counted 0.
  pub count_none : ((x : A) → P x → ⊥) → Count P 0
  count_none never = record {
    list = [];
    different = empty;
    exactly = λ x. (λ i. absurd (Memᴰ.not-nil i), λ p. absurd (never x p));
    long = refl;
  }

  -- What different things are sent to, differently, is as many.
  pub count_image : {B : Type 0} {n : ℕ} (f : A → B) → ((x y : A) → f x ≡ f y → x ≡ y) → Count P n →
      Count (λ y. (x : A) × P x × (f x ≡ y)) n
  count_image f one c = record {
    list = map f c.list;
    different = different_map f one c.different;
    exactly = λ y. (
      λ i. let (x, j, e) = Memᴰ.of_map f c.list i in (x, (c.exactly x).0 j, e),
      λ (x, p, e). Memᴰ.cast (sym e) (Memᴰ.map f ((c.exactly x).1 p)),
    );
    long = rw length-map c.long;
  }

-- One thing is counted 1.
pub count_one : {A : Type 0} (a : A) → Count (λ x. x ≡ a) 1
count_one a = record {
  list = a ∷ [];
  different = more Memᴰ.not-nil empty;
  exactly = λ x. (Memᴰ.eq_of_singleton, Memᴰ.head);
  long = refl;
}

-- whether a number stands in a list
stands : (a : ℕ) (l : List ℕ) → Dec (Memᴰ a l)
stands a [] = no Memᴰ.not-nil
stands a (x ∷ l) = go (ℕ_discrete a x) (stands a l)
  where
    go : Dec (a ≡ x) → Dec (Memᴰ a l) → Dec (Memᴰ a (x ∷ l))
    go (yes e) d = yes (Memᴰ.head e)
    go (no ne) (yes i) = yes (Memᴰ.tail i)
    go (no ne) (no ni) = no (λ i. ⊎_elim ne ni (Memᴰ.cases_cons i))

-- A thing that is counted already adds nothing.
pub count_again : {A : Type 0} {P : A → Type 0} {n : ℕ} {a : A} → Count P n → P a → Count (λ x. (x ≡ a) ⊎ P x) n
count_again {P} c p = count_same c (λ x. (inr, ⊎_elim (λ e. subst P (sym e) p) (λ q. q)))

-- A number, counted already or not, adds at most one.
pub count_with : {P : ℕ → Type 0} {n : ℕ} (a : ℕ) → Count P n → (m : ℕ) × Count (λ x. (x ≡ a) ⊎ P x) m × (m ≤ n + 1)
count_with {P} {n} a c = go (stands a c.list)
  where
    go : Dec (Memᴰ a c.list) → (m : ℕ) × Count (λ x. (x ≡ a) ⊎ P x) m × (m ≤ n + 1)
    go (yes i) = (n, count_again c ((c.exactly a).0 i), omega arith)
    go (no ni) = (1 + n, count_either (count_one a) c (λ x e p. ni ((c.exactly a).1 (subst P e p))), omega arith)

-- the first n numbers of w, added
unfoldable pub total : ℕ → (ℕ → ℕ) → ℕ
total zero w = 0
total (suc n) w = total n w + w n

pub total_same : (n k : ℕ) → total n (λ i. k) ≡ n * k
unfolding total
total_same zero k = sym (zero-mul k)
total_same (suc n) k = rw (total_same n k, suc-mul) refl

total_join : (m n : ℕ) (w : ℕ → ℕ) → total (m + n) w ≡ total m w + total n (λ i. w (m + i))
unfolding total
total_join m zero w = simp add-zero
total_join m (suc n) w = rw (add-suc, total_join m n w) (omega arith)

-- rows of k numbers, one after another
pub total_rows : (n k : ℕ) (w : ℕ → ℕ) → total (n * k) w ≡ total n (λ r. total k (λ t. w (r * k + t)))
unfolding total
total_rows zero k w = rw zero-mul refl
total_rows (suc n) k w = rw (suc-mul, total_join, total_rows n k w) refl

-- Things that have numbers below n are counted number by number.
pub count_by : {A : Type 0} {P : A → Type 0} (number : A → ℕ) (n : ℕ) (w : ℕ → ℕ) →
    ((i : ℕ) → i < n → Count (λ x. (number x ≡ i) × P x) (w i)) → Count (λ x. (number x < n) × P x) (total n w)
unfolding total
count_by number zero w c = count_none (λ x (h, p). omega arith)
count_by {A} {P} number (suc n) w c =
    count_same (count_either (count_by number n w (λ i h. c i (omega arith))) (c n (le_refl _)) (λ x (h, p) (e, q). omega arith))
    (λ x. (⊎_elim (λ (h, p). (omega arith, p)) (λ (e, p). (omega arith, p)), last x))
  where
    last : (x : A) → (number x < suc n) × P x → ((number x < n) × P x) ⊎ ((number x ≡ n) × P x)
    last x (h, p) = elim (dec_lt (number x) n) [ yes l ↦ inl (l, p) | no l ↦ inr (omega arith, p) ]

-- Numbers below n are counted by adding what tells of each.
pub count_told : {P : ℕ → Type 0} (n : ℕ) (b : ℕ → ℕ) → ((k : ℕ) → k < n → Tells (P k) (b k)) →
    Count (λ k. (k < n) × P k) (total n b)
count_told {P} n b told = count_by (λ k. k) n b (λ i h. one i (told i h) (ℕ_discrete (b i) 1))
  where
    one : (i : ℕ) → Tells (P i) (b i) → Dec (b i ≡ 1) → Count (λ k. (k ≡ i) × P k) (b i)
    one i t (yes e) = rw e (count_same (count_one i) (λ k. (λ f. (f, subst P (sym f) (t.exactly.0 e)), λ (f, p). f)))
    one i t (no ne) =
        let e : b i ≡ 0 = omega arith in
        rw e (count_none (λ k (f, p). ne (t.exactly.1 (subst P f p))))

module _ {P : Question → Type 0} where
  -- Questions of the first n records are counted record by record.
  pub count_rows : (n : ℕ) (w : ℕ → ℕ) → ((r : ℕ) → r < n → Count (λ t. P (question r t)) (w r)) →
      Count (λ (q : Question). (q.of < n) × P q) (total n w)
  count_rows n w c =
      count_by (λ q. q.of) n w (λ r h. count_same (count_image (question r) (λ t u e. ap (λ (q : Question). q.at) e) (c r h)) (row r))
    where
      row : (r : ℕ) (q : Question) → ((t : ℕ) × P (question r t) × (question r t ≡ q)) ↔ ((q.of ≡ r) × P q)
      row r q = (
        λ (t, p, e). (ap (λ (q : Question). q.of) (sym e), subst P e p),
        λ (e, p). (q.at, rw (← e) p, rw (← e) refl),
      )

  -- A table of rows by record and places by term that tells of all questions with P counts them.
  pub count_table : (n k : ℕ) (b : ℕ → ℕ → ℕ) → ((q : Question) → P q → (q.of < n) × (q.at < k)) →
      ((r t : ℕ) → r < n → t < k → Tells (P (question r t)) (b r t)) → Count P (total n (λ r. total k (b r)))
  count_table n k b within told = count_same (count_rows n (λ r. total k (b r)) row) (λ q. (λ (h, p). p, λ p. ((within q p).0, p)))
    where
      row : (r : ℕ) → r < n → Count (λ t. P (question r t)) (total k (b r))
      row r h = count_same (count_told k (b r) (λ t i. told r t h i)) (λ t. (λ (i, p). p, λ p. ((within (question r t) p).1, p)))
