-- The textbook reading of conforming: a path through a sequence splits in two, a path through a star into its rounds.
-- The definition of specs/ tells runs by configurations instead, so that no proof splits a list; here they are one.
use Prim.Native.Nat.{ℕ}
use mathlib.Core.Path.{◌≡◌, refl, sym, ap, ◌∙◌}
use mathlib.Core.List.{[], ◌∷◌, ◌++◌, append_assoc, append-nil}
use mathlib.Core.Logic.{◌⊎◌, inl, inr, ◌↔◌}
use Rattle.meaning.specs.Site.{Site, Voc}
use Rattle.meaning.specs.Move.{Move, any}
use Rattle.meaning.specs.Expression.{Expr, step, tested, sequence, choice, star}
use Rattle.meaning.specs.Relation.{Plus, once, then, Holds}
use Rattle.meaning.specs.Path.{Path, Config, at, taken, Run, Conforms}

-- the path is that of one round, or that of a round and then that of more
pub data Rounds (C : ℕ → Path → ℕ → Type 0) : ℕ → Path → ℕ → Type 0 where
  one : {t u : ℕ} {p : Path} → C t p u → Rounds C t p u
  more : {t m u : ℕ} {p q o : Path} → C t p m → Rounds C m q u → o ≡ p ++ q → Rounds C t o u

-- the path leads from t to u through the expression
abbrev pub Splits : Site → Expr → ℕ → Path → ℕ → Type 0
Splits s (step r a l) t p u = (k m : ℕ) × Move s a l k t m u × (p ≡ taken r k u ∷ [])
Splits s (tested r a x) t p u = (k m : ℕ) × Move s a any k t m u × Holds s x m × (p ≡ taken r k u ∷ [])
Splits s (sequence r a b) t p u = (m : ℕ) × (q o : Path) × (p ≡ q ++ o) × Splits s a t q m × Splits s b m o u
Splits s (choice r a b) t p u = Splits s a t p u ⊎ Splits s b t p u
Splits s (star r a) t p u = (Voc s t × (t ≡ u) × (p ≡ [])) ⊎ Rounds (Splits s a) t p u

-- a run takes the steps that lead through the expression off the front of those to be taken
run_takes : (s : Site) (e : Expr) (c d : Config) → Run s e c d → (p : Path) × (c.steps ≡ p ++ d.steps) × Splits s e c.term p d.term
run_takes s (step r a l) c d (k, m, move, eq) = (taken r k d.term ∷ [], eq, (k, m, move, refl))
run_takes s (tested r a x) c d (k, m, move, holds, eq) = (taken r k d.term ∷ [], eq, (k, m, move, holds, refl))
run_takes s (sequence r a b) c d (i, h, j) =
    let (p, eq, front) = run_takes s a c i h in
    let (q, same, back) = run_takes s b i d j in
    (p ++ q, cc (append_assoc p q d.steps), (i.term, p, q, refl, front, back))
run_takes s (choice r a b) c d (inl h) = let (p, eq, through) = run_takes s a c d h in (p, eq, inl through)
run_takes s (choice r a b) c d (inr h) = let (p, eq, through) = run_takes s b c d h in (p, eq, inr through)
run_takes s (star r a) c d (inl (v, eq)) = ([], ap (λ (x : Config). x.steps) eq, inl (v, ap (λ (x : Config). x.term) eq, refl))
run_takes s (star r a) c d (inr h) = let (p, eq, through) = rounds (run_takes s a) h in (p, eq, inr through)
  where
    rounds : ((c d : Config) → Run s a c d → (p : Path) × (c.steps ≡ p ++ d.steps) × Splits s a c.term p d.term) →
        {c d : Config} → Plus (Run s a) c d → (p : Path) × (c.steps ≡ p ++ d.steps) × Rounds (Splits s a) c.term p d.term
    rounds f (once h) = let (p, eq, through) = f _ _ h in (p, eq, one through)
    rounds f {d = d} (then h j) =
        let (p, eq, front) = f _ _ h in
        let (q, same, back) = rounds f j in
        (p ++ q, cc (append_assoc p q d.steps), more front back refl)

-- steps that lead through the expression are run, whatever is to be done after them
splits_run : (s : Site) (e : Expr) (t : ℕ) (p : Path) (u : ℕ) → Splits s e t p u → (q : Path) → Run s e (at t (p ++ q)) (at u q)
splits_run s (step r a l) t p u (k, m, move, eq) q = (k, m, move, ap (λ (x : Path). x ++ q) eq)
splits_run s (tested r a x) t p u (k, m, move, holds, eq) q = (k, m, move, holds, ap (λ (x : Path). x ++ q) eq)
splits_run s (sequence r a b) t p u (m, front, back, eq, h, j) q =
    (at m (back ++ q), rw (eq, append_assoc) (splits_run s a t front m h (back ++ q)), splits_run s b m back u j q)
splits_run s (choice r a b) t p u (inl h) q = inl (splits_run s a t p u h q)
splits_run s (choice r a b) t p u (inr h) q = inr (splits_run s b t p u h q)
splits_run s (star r a) t p u (inl (v, same, eq)) q = inl (v, cc)
splits_run s (star r a) t p u (inr h) q = inr (rounds (splits_run s a) h)
  where
    rounds : ((t : ℕ) (p : Path) (u : ℕ) → Splits s a t p u → (q : Path) → Run s a (at t (p ++ q)) (at u q)) →
        {t : ℕ} {p : Path} {u : ℕ} → Rounds (Splits s a) t p u → Plus (Run s a) (at t (p ++ q)) (at u q)
    rounds f (one h) = once (f _ _ _ h q)
    rounds f (more {p = front} {q = back} h j eq) = rw (eq, append_assoc) (then (f _ front _ h (back ++ q)) (rounds f j))

-- a run takes off the front the steps that lead through the expression
pub run_splits : (s : Site) (e : Expr) (t : ℕ) (p : Path) (u : ℕ) (q : Path) →
    Run s e (at t p) (at u q) ↔ ((front : Path) × (p ≡ front ++ q) × Splits s e t front u)
run_splits s e t p u q =
    (run_takes s e (at t p) (at u q), λ (front, eq, through). rw eq (splits_run s e t front u through q))

-- a path conforms exactly if it splits as the textbook says
pub conforms_splits : (s : Site) (e : Expr) (t : ℕ) (p : Path) (u : ℕ) → Conforms s e t p u ↔ Splits s e t p u
conforms_splits s e t p u = (
  λ h. let (front, eq, through) = (run_splits s e t p u []).0 h in rw (eq ∙ append-nil front) through,
  λ through. (run_splits s e t p u []).1 (p, sym (append-nil p), through),
)
