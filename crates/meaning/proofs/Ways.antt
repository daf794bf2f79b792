-- A way through the picture is a run of the subexpression and what comes after it in its body (document 01, "Lent tables").
-- So the picture, by which the number table is stated, says the same as the runs, by which conforming is stated.
use Prim.Native.Nat.{ℕ, ◌<◌, ◌≤◌}
use mathlib.Core.Path.{◌≡◌, refl, subst, sym}
use mathlib.Core.List.{[]}
use mathlib.Core.Logic.Iff
use mathlib.Core.Logic.{◌⊎◌, inl, inr, ◌↔◌}
use lib.ListN.{length}
use native.Mathlib.Omega.{arith}
use Rattle.meaning.specs.Limits.{none}
use Rattle.meaning.specs.Site.{Site}
use Rattle.meaning.specs.Move.{Axis}
use Rattle.meaning.specs.Expression.{Expr, step, tested, sequence, choice, star, Context, whole, test, first_of, second_of, one_of, other_of, round_of}
use Rattle.meaning.specs.Relation.{Plus, once, then, Rel, Holds}
use Rattle.meaning.specs.Path.{Path, Config, at, Run, Conforms}
use Rattle.meaning.specs.Fewest.{Goal, end, anywhere, Meets, State, entered, finished, Free, sequence_in, sequence_on, sequence_out, one_in, one_out, other_in, other_out, round_in, round_empty, round_again, round_out, Way, home, held, free, by_step, by_test, Fewest, attained, never}
use Rattle.meaning.proofs.Conforming.{run_related, related_run, related_iff_path}

-- once e, which stands so, is finished at c, the rest of the path can finish the body
abbrev pub After : Site → Goal → Expr → Context → Config → Type 0
After s g e whole c = (c.steps ≡ []) × Meets g c.term
After s g e (test r a K) c = c.steps ≡ []
After s g e (first_of r b K) c = (d : Config) × Run s b c d × After s g (sequence r e b) K d
After s g e (second_of r a K) c = After s g (sequence r a e) K c
After s g e (one_of r b K) c = After s g (choice r e b) K c
After s g e (other_of r a K) c = After s g (choice r a e) K c
After s g e (round_of r K) c =
    After s g (star r e) K c ⊎ ((d : Config) × Plus (Run s e) c d × After s g (star r e) K d)

-- what is ahead of a state: once entered, a run and what comes after it
abbrev Ahead : Site → Goal → State → Path → Type 0
Ahead s g (entered e K t) p = (d : Config) × Run s e (at t p) d × After s g e K d
Ahead s g (finished e K u) p = After s g e K (at u p)

module _ (s : Site) (g : Goal) where
  -- a free move takes nothing from what is ahead
  free_ahead : {x y : State} (p : Path) → Free s x y → Ahead s g y p → Ahead s g x p
  free_ahead p sequence_in (i, h, (d, j, after)) = (d, (i, h, j), after)
  free_ahead p sequence_on h = h
  free_ahead p sequence_out h = h
  free_ahead p one_in (d, h, after) = (d, inl h, after)
  free_ahead p one_out h = h
  free_ahead p other_in (d, h, after) = (d, inr h, after)
  free_ahead p other_out h = h
  free_ahead p round_in (d, h, inl after) = (d, inr (once h), after)
  free_ahead p round_in (c, h, inr (d, more, after)) = (d, inr (then h more), after)
  free_ahead p (round_empty {t = t} v) after = (at t p, inl (v, refl), after)
  free_ahead p round_again (d, h, inl after) = inr (d, once h, after)
  free_ahead p round_again (c, h, inr (d, more, after)) = inr (d, then h more, after)
  free_ahead p round_out h = inl h

  way_ahead : {x : State} {p : Path} → Way s g x p → Ahead s g x p
  way_ahead (home meets) = (refl, meets)
  way_ahead held = refl
  way_ahead (free {p = p} f w) = free_ahead p f (way_ahead w)
  way_ahead (by_step {k = k} {m = m} {u = u} {p = p} move w) = (at u p, (k, m, move, refl), way_ahead w)
  way_ahead (by_test {x = x} {k = k} {m = m} {u = u} {p = p} {q = q} move inner w) =
      let (d, h, after) = way_ahead inner in
      (at u p, (k, m, move, (d.term, run_related s x (at m q) d h), refl), way_ahead w)

  -- a way from where one stands
  abbrev From : (ℕ → State) → Config → Type 0
  From x c = Way s g (x c.term) c.steps

  -- what a round of a star takes back to where it is entered, one or more rounds do
  rounds_way : (a : Expr) (r : ℕ) (K : Context) →
      ((c d : Config) → Run s a c d → From (finished a (round_of r K)) d → From (entered a (round_of r K)) c) →
      {c d : Config} → Plus (Run s a) c d → From (finished (star r a) K) d → From (entered a (round_of r K)) c
  rounds_way a r K f (once h) w = f _ _ h (free round_out w)
  rounds_way a r K f (then h more) w = f _ _ h (free round_again (rounds_way a r K f more w))

  -- a run takes a way that leads on from its end back to its beginning
  pub run_way : (e : Expr) (K : Context) (c d : Config) → Run s e c d →
      Way s g (finished e K d.term) d.steps → Way s g (entered e K c.term) c.steps
  run_way (step r a l) K c d (k, m, move, eq) w = rw eq (by_step move w)
  run_way (tested r a x) K c d (k, m, move, (v, rel), eq) w =
      let (q, run) = related_run s x m v rel [] in
      rw eq (by_test move (run_way x (test r a K) (at m q) (at v []) run held) w)
  run_way (sequence r a b) K c d (i, h, j) w =
      free sequence_in (run_way a (first_of r b K) c i h (free sequence_on (run_way b (second_of r a K) i d j (free sequence_out w))))
  run_way (choice r a b) K c d (inl h) w = free one_in (run_way a (one_of r b K) c d h (free one_out w))
  run_way (choice r a b) K c d (inr h) w = free other_in (run_way b (other_of r a K) c d h (free other_out w))
  run_way (star r a) K c d (inl (v, eq)) w = free (round_empty v) (subst (From (finished (star r a) K)) (sym eq) w)
  run_way (star r a) K c d (inr h) w = free round_in (rounds_way a r K (run_way a (round_of r K)) h w)

  after_way : (e : Expr) (K : Context) (c : Config) → After s g e K c → From (finished e K) c
  after_way e whole c (eq, meets) = rw eq (home meets)
  after_way e (test r a K) c eq = rw eq held
  after_way e (first_of r b K) c (d, h, after) =
      free sequence_on (run_way b (second_of r e K) c d h (free sequence_out (after_way (sequence r e b) K d after)))
  after_way e (second_of r a K) c after = free sequence_out (after_way (sequence r a e) K c after)
  after_way e (one_of r b K) c after = free one_out (after_way (choice r e b) K c after)
  after_way e (other_of r a K) c after = free other_out (after_way (choice r a e) K c after)
  after_way e (round_of r K) c (inl after) = free round_out (after_way (star r e) K c after)
  after_way e (round_of r K) c (inr (d, more, after)) =
      free round_again (rounds_way e r K (run_way e (round_of r K)) more (after_way (star r e) K d after))

  -- a way from where e is entered is a run of e and what comes after it
  pub way_run : (e : Expr) (K : Context) (t : ℕ) (p : Path) →
      Way s g (entered e K t) p ↔ ((d : Config) × Run s e (at t p) d × After s g e K d)
  way_run e K t p = (way_ahead, λ (d, h, after). run_way e K (at t p) d h (after_way e K d after))

  -- a way from where e is finished is what comes after it
  pub way_after : (e : Expr) (K : Context) (u : ℕ) (p : Path) → Way s g (finished e K u) p ↔ After s g e K (at u p)
  way_after e K u p = (way_ahead, after_way e K (at u p))

-- a way through the rule is a conforming path to a term that meets the goal
pub way_meets : (s : Site) (g : Goal) (rule : Expr) (t : ℕ) (p : Path) →
    Way s g (entered rule whole t) p ↔ ((u : ℕ) × Conforms s rule t p u × Meets g u)
way_meets s g rule t p = (
  λ w. let (d, h, (eq, meets)) = (way_run s g rule whole t p).0 w in (d.term, rw (← eq) h, meets),
  λ (u, h, meets). run_way s g rule whole (at t p) (at u []) h (home meets),
)

-- a way through the rule to the query's end is a conforming path to it
pub way_conforms : (s : Site) (rule : Expr) (t : ℕ) (p : Path) (u : ℕ) → Way s (end u) (entered rule whole t) p ↔ Conforms s rule t p u
way_conforms s rule t p u = (
  λ w. let (v, h, eq) = (way_meets s (end u) rule t p).0 w in rw (← eq) h,
  λ h. (way_meets s (end u) rule t p).1 (u, h, refl),
)

-- a way through the rule to anywhere is a conforming path to some term
pub way_anywhere : (s : Site) (rule : Expr) (t : ℕ) (p : Path) → Way s anywhere (entered rule whole t) p ↔ ((u : ℕ) × Conforms s rule t p u)
way_anywhere s rule t p = (
  λ w. let (u, h, meets) = (way_meets s anywhere rule t p).0 w in (u, h),
  λ (u, h). (way_meets s anywhere rule t p).1 (u, h, tt),
)

-- the test holds at a term exactly if there is a way from there through its body
pub holds_way : (s : Site) (g : Goal) (r : ℕ) (a : Axis) (x : Expr) (K : Context) (m : ℕ) →
    Holds s x m ↔ ((q : Path) × Way s g (entered x (test r a K) m) q)
holds_way s g r a x K m = (
  λ (v, rel). let (q, h) = related_run s x m v rel [] in (q, run_way s g x (test r a K) (at m q) (at v []) h held),
  λ (q, w). let (d, h, after) = (way_run s g x (test r a K) m q).0 w in (d.term, run_related s x (at m q) d h),
)

module _ {P : Path → Type 0} where
  -- the fewest steps are one number
  pub fewest_unique : {m n : ℕ} → Fewest P m → Fewest P n → m ≡ n
  fewest_unique (attained p x long below least) (attained q y same under fewest) =
      let up = least q y in let down = fewest p x in omega arith
  fewest_unique (attained p x long below least) (never eq all) = absurd (all p x)
  fewest_unique (never eq all) (attained p x long below least) = absurd (all p x)
  fewest_unique (never eq all) (never same every) = omega arith

  -- no such path has fewer
  pub fewest_least : {n : ℕ} (q : Path) → Fewest P n → P q → n ≤ length q
  fewest_least q (attained p x long below least) h = least q h
  fewest_least q (never eq all) h = absurd (all q h)

  -- a number is attained
  pub fewest_attained : {n : ℕ} → Fewest P n → n < none → (p : Path) × P p × (length p ≡ n)
  fewest_attained (attained p x long below least) h = (p, x, long)
  fewest_attained (never eq all) h = absurd (omega arith)

  -- there is a number exactly if there is such a path
  pub fewest_some : {n : ℕ} → Fewest P n → (n < none) ↔ ((p : Path) × P p)
  fewest_some f = (
    λ h. let (p, x, long) = fewest_attained f h in (p, x),
    λ (p, x). elim f [ attained q y long below least ↦ below | never eq all ↦ absurd (all p x) ],
  )

-- the rule has a number at t exactly if it relates t to a term that meets the goal
pub fewest_meets : (s : Site) (g : Goal) (rule : Expr) (t : ℕ) {n : ℕ} → Fewest (Way s g (entered rule whole t)) n →
    (n < none) ↔ ((u : ℕ) × Rel s rule t u × Meets g u)
fewest_meets s g rule t f = (
  λ h. let (p, w) = (fewest_some f).0 h in
      let (u, run, meets) = (way_meets s g rule t p).0 w in
      (u, (related_iff_path s rule t u).1 (p, run), meets),
  λ (u, h, meets). let (p, run) = (related_iff_path s rule t u).0 h in (fewest_some f).1 (p, (way_meets s g rule t p).1 (u, run, meets)),
)

-- to the query's end: it has one exactly if it relates t to the end
pub fewest_related : (s : Site) (rule : Expr) (t u : ℕ) {n : ℕ} → Fewest (Way s (end u) (entered rule whole t)) n →
    (n < none) ↔ Rel s rule t u
fewest_related s rule t u f = (
  λ h. let (v, related, eq) = (fewest_meets s (end u) rule t f).0 h in rw (← eq) related,
  λ h. (fewest_meets s (end u) rule t f).1 (u, h, refl),
)

-- to anywhere: it has one exactly if it relates t to some term; so the starts and the ends are read off the table
pub fewest_anywhere : (s : Site) (rule : Expr) (t : ℕ) {n : ℕ} → Fewest (Way s anywhere (entered rule whole t)) n →
    (n < none) ↔ ((u : ℕ) × Rel s rule t u)
fewest_anywhere s rule t f = (
  λ h. let (u, related, meets) = (fewest_meets s anywhere rule t f).0 h in (u, related),
  λ (u, h). (fewest_meets s anywhere rule t f).1 (u, h, tt),
)

-- a test has a number at m exactly if it holds there
pub fewest_holds : (s : Site) (g : Goal) (r : ℕ) (a : Axis) (x : Expr) (K : Context) (m : ℕ) {n : ℕ} →
    Fewest (Way s g (entered x (test r a K) m)) n → (n < none) ↔ Holds s x m
fewest_holds s g r a x K m f = Iff.trans (fewest_some f) (Iff.symm (holds_way s g r a x K m))
