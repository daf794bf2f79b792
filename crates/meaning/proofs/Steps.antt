-- The steps of a shortest path never exceed the work figure.
-- To a way belong its questions: the record of each step taken, at the term that it leaves. On a shortest way they are different.
use Prim.Native.Nat.{ℕ, suc, ◌<◌, ◌≤◌}
use mathlib.Core.Path.{◌≡◌, refl, sym, ◌∙◌, ap, subst, subst₂}
use mathlib.Core.List.Memᴰ
use mathlib.Core.List.{List, [], ◌∷◌, Memᴰ}
use mathlib.Core.Logic.{⊎_elim}
use native.Mathlib.Nat.{le_refl, le_of_suc-le-suc}
use native.Mathlib.Omega.{arith}
use lib.ListN.{length}
use Rattle.meaning.specs.Site.{Site}
use Rattle.meaning.specs.Expression.{Expr, step, tested, last, Context, whole, plug, Numbered}
use Rattle.meaning.specs.Path.{Path}
use Rattle.meaning.specs.Fewest.{Goal, State, entered, Way, home, held, free, by_step, by_test}
use Rattle.meaning.specs.Question.{Question, question, Different, empty, more, Figure}
use Rattle.meaning.specs.Marks.{Asked, Here}
use Rattle.meaning.proofs.States.{rule_of, free_keeps}
use Rattle.meaning.proofs.Names.{one_node}
use Rattle.meaning.proofs.Ways.{holds_way}
use Rattle.meaning.proofs.Counting.{fewer}
use Rattle.meaning.proofs.Asked.{free_here, step_here, test_here, Stands, asks_by_context}

module _ {s : Site} {g : Goal} where
  questions : {x : State} {p : Path} → Way s g x p → List Question
  questions (home h) = []
  questions held = []
  questions (free f w) = questions w
  questions (by_step {r = r} {t = t} v w) = question r t ∷ questions w
  questions (by_test {r = r} {t = t} v i w) = question r t ∷ questions w

  questions_long : {x : State} {p : Path} (w : Way s g x p) → length (questions w) ≡ length p
  unfolding questions
  questions_long (home h) = refl
  questions_long held = refl
  questions_long (free f w) = questions_long w
  questions_long (by_step v w) = ap suc (questions_long w)
  questions_long (by_test v i w) = ap suc (questions_long w)

module _ (s : Site) (g : Goal) where
  -- no way from x has fewer steps than p
  abbrev pub Shortest : State → Path → Type 0
  Shortest x p = (q : Path) → Way s g x q → length p ≤ length q

module _ (s : Site) (g : Goal) (z : ℕ) (rule : Expr) where
  -- the question's subexpression stands in the rule and is asked, and a way of at most n steps leads from there
  record Met (n : ℕ) (q : Question) : Type 0 where
    place : Stands s z rule q
    steps : Path
    way : Way s g (entered place.0 place.1 q.at) steps
    short : length steps ≤ n

module _ (s : Site) (g : Goal) (z : ℕ) (rule : Expr) (numbered : Numbered 0 rule) where
  met_first : {n : ℕ} {p : Path} {q : Question} (e : Expr) (K : Context) (t : ℕ) → plug e K ≡ rule → Asked s z e K t →
      Way s g (entered e K t) p → length p ≤ n → q ≡ question (last e) t → Met s g z rule n q
  met_first {n} {p} e K t stands asked w h f =
      subst (Met s g z rule n) (sym f) (record { place = (e, K, stands, refl, asked); steps = p; way = w; short = h })

  -- every question of a way is met on it
  met : {x : State} {p : Path} (w : Way s g x p) → rule_of x ≡ rule → Here s z x → (n : ℕ) → length p ≤ n →
      (q : Question) → Memᴰ q (questions w) → Met s g z rule n q
  unfolding questions
  met (home h) e here n b q i = absurd (Memᴰ.not-nil i)
  met held e here n b q i = absurd (Memᴰ.not-nil i)
  met (free f w) e here n b q i = met w ((free_keeps f).1 ∙ e) (free_here s z f here) n b q i
  met (by_step {r = r} {a = a} {l = l} {K = K} {t = t} v w) e here n b q i =
      ⊎_elim (met_first (step r a l) K t e here (by_step v w) b)
      (λ j. met w e (step_here s z r K v here) n (omega arith) q j) (Memᴰ.cases_cons i)
  met (by_test {r = r} {a = a} {x = x} {K = K} {t = t} v h w) e here n b q i =
      ⊎_elim (met_first (tested r a x) K t e here (by_test v h w) b)
      (λ j. met w e (test_here s z r x K v ((holds_way s g r a x K _).1 (_, h)) here) n (omega arith) q j) (Memᴰ.cases_cons i)

  -- where all ways are longer than n, the state is not met on a way of n steps
  not_met : {n : ℕ} (e : Expr) (K : Context) (t : ℕ) → plug e K ≡ rule → ((q : Path) → Way s g (entered e K t) q → n < length q) →
      Met s g z rule n (question (last e) t) → ⊥
  not_met e K t stands longer m =
      let (f, L, p, named, asked) = m.place in
      let (same, around) = one_node numbered f e L K p stands named in
      let l = longer m.steps (subst₂ (λ (d : Expr) (C : Context). Way s g (entered d C t) m.steps) same around m.way) in
      let k = m.short in
      omega arith

  -- the questions of a shortest way are different
  different : {x : State} {p : Path} (w : Way s g x p) → rule_of x ≡ rule → Here s z x → Shortest s g x p → Different (questions w)
  unfolding questions
  different (home h) e here least = empty
  different held e here least = empty
  different (free f w) e here least = different w ((free_keeps f).1 ∙ e) (free_here s z f here) (λ q v. least q (free f v))
  different (by_step {r = r} {a = a} {l = l} {K = K} {t = t} v w) e here least =
      let on = step_here s z r K v here in
      more (λ i. not_met (step r a l) K t e least (met w e on _ (le_refl _) (question r t) i))
      (different w e on (λ q o. le_of_suc-le-suc (least _ (by_step v o))))
  different (by_test {r = r} {a = a} {x = x} {K = K} {t = t} v h w) e here least =
      let on = test_here s z r x K v ((holds_way s g r a x K _).1 (_, h)) here in
      more (λ i. not_met (tested r a x) K t e least (met w e on _ (le_refl _) (question r t) i))
      (different w e on (λ q o. le_of_suc-le-suc (least _ (by_test v h o))))

  -- The steps of a shortest path never exceed the figure.
  pub steps_figure : {p : Path} {n : ℕ} → Way s g (entered rule whole z) p → Shortest s g (entered rule whole z) p →
      Figure s rule z n → length p ≤ n
  steps_figure w least f =
      rw (← questions_long w, ← f.long) (fewer (different w refl refl least)
      (λ q i. (f.exactly q).1 ((asks_by_context s z rule q).1 (met w refl refl _ (le_refl _) q i).place)))
