-- A pair is related exactly if a conforming path leads from the one to the other (document 01, "Steps, bodies and paths").
-- A run forgets its steps and is the relation; the relation finds its steps from the last to the first.
use Prim.Native.Nat.{ℕ}
use mathlib.Core.Path.{refl, ap}
use mathlib.Core.List.{[], ◌∷◌}
use mathlib.Core.Logic.{inl, inr, ◌↔◌}
use Rattle.meaning.specs.Site.{Site}
use Rattle.meaning.specs.Expression.{Expr, step, tested, sequence, choice, star}
use Rattle.meaning.specs.Relation.{Plus, once, then, Rel}
use Rattle.meaning.specs.Path.{Path, Config, at, taken, Run, Conforms}
use Rattle.meaning.proofs.Rounds.{plus_map}

-- what is run is related
pub run_related : (s : Site) (e : Expr) (c d : Config) → Run s e c d → Rel s e c.term d.term
run_related s (step r a l) c d (k, m, move, eq) = (k, m, move)
run_related s (tested r a x) c d (k, m, move, holds, eq) = (k, m, move, holds)
run_related s (sequence r a b) c d (i, h, j) = (i.term, run_related s a c i h, run_related s b i d j)
run_related s (choice r a b) c d (inl h) = inl (run_related s a c d h)
run_related s (choice r a b) c d (inr h) = inr (run_related s b c d h)
run_related s (star r a) c d (inl (v, eq)) = inl (v, ap (λ (x : Config). x.term) eq)
run_related s (star r a) c d (inr h) = inr (plus_map (λ x. x.term) (run_related s a) h)

-- what is related is run by some steps, whatever is to be done after them
pub related_run : (s : Site) (e : Expr) (t u : ℕ) → Rel s e t u → (q : Path) → (p : Path) × Run s e (at t p) (at u q)
related_run s (step r a l) t u (k, m, move) q = (taken r k u ∷ q, (k, m, move, refl))
related_run s (tested r a x) t u (k, m, move, holds) q = (taken r k u ∷ q, (k, m, move, holds, refl))
related_run s (sequence r a b) t u (m, h, j) q =
    let (p, run) = related_run s b m u j q in
    let (o, ran) = related_run s a t m h p in
    (o, (at m p, ran, run))
related_run s (choice r a b) t u (inl h) q = let (p, run) = related_run s a t u h q in (p, inl run)
related_run s (choice r a b) t u (inr h) q = let (p, run) = related_run s b t u h q in (p, inr run)
related_run s (star r a) t u (inl (v, eq)) q = (q, inl (v, ap (λ x. at x q) eq))
related_run s (star r a) t u (inr h) q = let (p, run) = rounds (related_run s a) h in (p, inr run)
  where
    rounds : ((t u : ℕ) → Rel s a t u → (q : Path) → (p : Path) × Run s a (at t p) (at u q)) →
        {t u : ℕ} → Plus (Rel s a) t u → (p : Path) × Plus (Run s a) (at t p) (at u q)
    rounds f (once h) = let (p, run) = f _ _ h q in (p, once run)
    rounds f (then h j) =
        let (p, run) = rounds f j in
        let (o, ran) = f _ _ h p in
        (o, then ran run)

-- a pair is related exactly if a conforming path leads from the one to the other
pub related_iff_path : (s : Site) (e : Expr) (t u : ℕ) → Rel s e t u ↔ ((p : Path) × Conforms s e t p u)
related_iff_path s e t u = (λ h. related_run s e t u h [], λ (p, run). run_related s e (at t p) (at u []) run)
