-- One look: an offer was compared with its entry, and the entry lowered where the offer is lower.
-- So `look` looks at one triple, and `rest` at staying at one term.
use Prim.Native.Nat.{ℕ, zero, suc, ◌+◌, ◌<◌, ◌≤◌}
use mathlib.Core.Path.{◌≡◌, refl, sym, ◌∙◌}
use mathlib.Core.Bool.{Bool, true, false}
use mathlib.Core.List.{List}
use native.Mathlib.Nat.{add-zero}
use native.Mathlib.Omega.{arith}
use native.Mathlib.Decide.{dec_lt}
use borrow.Author.Tests.{eqb-true, ltb-true, eq-eqb, lt-ltb}
use Rattle.meaning.specs.Limits.{terms}
use Rattle.meaning.specs.Site.{Site}
use Rattle.meaning.specs.Move.{Axis, any, only, Move, staying, going, coming}
use Rattle.meaning.specs.Fewest.{Goal}
use Rattle.records.specs.declared.Label.{Label}
use Rattle.records.specs.declared.Label.TheVariants.{Any, Term, Test}
use Rattle.fewest.specs.declared.look.Moved.{Moved}
use Rattle.fewest.specs.Frame.{Frame, frame}
use Rattle.fewest.specs.Offer.{view, Continues, Work, Offer, by_step, by_test, by_rest}
use Rattle.fewest.specs.Table.{Lowered}
use Rattle.fewest.specs.Work.{Least, work_of, allowing, staying as stayingBy, Looks, QuietAt, QuietBy, MayRest, at_word, at_name}
use Rattle.fewest.proofs.Sweeps.{lowers_chain, swept_none, swept_lower}
use Rattle.fewest.proofs.Axes.{Taken}

-- What is offered was compared with its entry: the look is a part of a sweep.
pub looked : {F : Frame} {w : Work} {r t v : ℕ} {Q : List ℕ → Type 0} {T T' : List ℕ} {was now : Bool} → t < terms → Offer F T r t w v →
    Lowered r t v T T' was now → (view T r t ≤ v → Q T) → Looks F w r Q T T' was now
looked {r = r} {t} {v} {T = T} b o l quiet = elim (dec_lt v (view T r t)) [
  | yes h ↦ let (same, told) = l.lower h in rw (same, told) (swept_lower T b o h)
  | no h ↦ let (same, told) = l.keep (omega arith) in rw (same, told) (swept_none lowers_chain (quiet (omega arith)))
]

-- a move past any middle is one past a named middle, if that is its middle
pub named : {s : Site} {a : Axis} {k t m u n : ℕ} → Move s a any k t m u → m ≡ n → Move s a (only n) k t m u
named (staying x) e = staying (record { number = x.number; rests = sym x.passes ∙ e; passes = x.passes; ends = x.ends })
named (going x _) e = going x e
named (coming x _) e = coming x e

-- where the label lets the middle pass, a step offers one more than what may follow
pub step_offer : {F : Frame} {T : List ℕ} {r : ℕ} (l : Label) {a : Axis} {k t m u v : ℕ} → Move F.site a any k t m u →
    allowing T l r m ≡ true → Continues F T r u v → Offer F T r t (work_of a l) (v + 1)
step_offer Any move ok c = by_step move c
step_offer (Term n) {m = m} move ok c = by_step (named move (eqb-true m n ok)) c
step_offer Test move ok c = by_test move (ltb-true _ _ ok) c

-- A look at triple number k, whose one move along the axis is m, for a step of record r with this label.
module _ {s : Site} {up role : List ℕ} {g : Goal} {k r : ℕ} {a : Axis} (l : Label) (T : List ℕ) {m : Moved} (taken : Taken s k a m)
    {ok was : Bool} (told : ok ≡ allowing T l r m.middle) where
  -- The label lets the middle pass, and the entry was lowered to one more than the least that may follow.
  pub look_passes : {v : ℕ} {T' : List ℕ} {now : Bool} → ok ≡ true → m.from < terms → Least up role g T r m.to v →
      Lowered r m.from (v + 1) T T' was now → Looks (frame s up role g) (work_of a l) r (QuietBy (frame s up role g) a l r k) T T' was now
  look_passes yea b least lowered =
      looked b (step_offer l taken.moves (sym told ∙ yea) (least.among s)) lowered
      λ h t p u w move passes c. let (from, _, to) = taken.alone t p u move in
      let q = least.least s w (rw to at c) in
      rw from (omega arith)

  -- The label does not let it pass: nothing is offered.
  pub look_barred : ok ≡ false → Looks (frame s up role g) (work_of a l) r (QuietBy (frame s up role g) a l r k) T T was was
  look_barred nay =
      swept_none lowers_chain
      λ t p u w move passes c. let (_, past, _) = taken.alone t p u move in
      let z : ◌≡◌ {A = ℕ} 0 1 = cc (rw past at passes) in absurd (omega arith)

-- The entry is 1 at most: no step offers less.
pub look_low : {s : Site} {up role : List ℕ} {g : Goal} {k r : ℕ} {a : Axis} (l : Label) (T : List ℕ) {m : Moved} {was : Bool} →
    Taken s k a m → view T r m.from ≤ 1 → Looks (frame s up role g) (work_of a l) r (QuietBy (frame s up role g) a l r k) T T was was
look_low l T taken low = swept_none lowers_chain λ t p u w move passes c. let (from, _, to) = taken.alone t p u move in rw from (omega arith)

-- Staying at t is offered at its cost, where one may stay and the label lets t pass.
rest_offer : {F : Frame} {T : List ℕ} {r t v : ℕ} (l : Label) (cost : ℕ) → cost < 2 → MayRest F.site l cost t → allowing T l r t ≡ true →
    Continues F T r t v → Offer F T r t (stayingBy cost l) (v + cost)
rest_offer {v = v} l zero h (at_word x) ok c = rw (add-zero v) (by_rest x c)
rest_offer l zero h (at_name e) ok c = absurd (omega arith)
rest_offer l (suc zero) h (at_word x) ok c =
    step_offer l (staying (record { number = refl; rests = x; passes = refl; ends = refl })) ok c
rest_offer {t = t} l (suc zero) h (at_name {n} e) ok c =
    by_step (staying (record { number = refl; rests = eqb-true t n ok; passes = refl; ends = refl })) c
rest_offer l (suc (suc cost)) h may ok c = absurd (omega arith)

-- And nothing else is: what is offered is what may follow at t, at its cost, where the label lets t pass.
rest_offered : {F : Frame} {T : List ℕ} {r t v : ℕ} (l : Label) (cost : ℕ) → cost < 2 → (cost ≡ 0 → l ≡ Any) →
    Offer F T r t (stayingBy cost l) v → (w : ℕ) × (v ≡ w + cost) × Continues F T r t w × (allowing T l r t ≡ true)
rest_offered {v = v} l zero h free (by_rest x c) = (v, omega arith, c, rw (free refl))
rest_offered Any (suc zero) h free (by_step (staying x) c) = (_, refl, rw x.ends at c, refl)
rest_offered (Term n) (suc zero) h free (by_step (staying x) c) = (_, refl, rw x.ends at c, eq-eqb _ _ x.rests)
rest_offered Test (suc zero) h free (by_test (staying x) i c) = (_, refl, rw x.ends at c, lt-ltb _ _ (rw x.passes at i))
rest_offered l (suc (suc cost)) h free o = absurd (omega arith)

-- The entry is the cost at most: staying offers no less.
pub rest_low : {s : Site} {up role : List ℕ} {g : Goal} {r t : ℕ} (l : Label) (cost : ℕ) (T : List ℕ) {was : Bool} → cost < 2 → (cost ≡ 0 → l ≡ Any) →
    view T r t ≤ cost → Looks (frame s up role g) (stayingBy cost l) r (QuietAt (frame s up role g) (stayingBy cost l) r t) T T was was
rest_low l cost T few free low = swept_none lowers_chain λ x o. let (w, e, c, _) = rest_offered l cost few free o in omega arith

-- A look at staying at t, for record r with this label.
module _ {s : Site} {up role : List ℕ} {g : Goal} {r t : ℕ} (l : Label) (cost : ℕ) (T : List ℕ) (few : cost < 2) (free : cost ≡ 0 → l ≡ Any)
    {ok was : Bool} (told : ok ≡ allowing T l r t) where
  -- The label lets t pass, and the entry was lowered to the least that may follow, at its cost.
  pub rest_passes : {v : ℕ} {T' : List ℕ} {now : Bool} → ok ≡ true → MayRest s l cost t → t < terms → Least up role g T r t v →
      Lowered r t (v + cost) T T' was now →
      Looks (frame s up role g) (stayingBy cost l) r (QuietAt (frame s up role g) (stayingBy cost l) r t) T T' was now
  rest_passes yea may b least lowered =
      looked b (rest_offer l cost few may (sym told ∙ yea) (least.among s)) lowered
      λ h x o. let (w, e, c, _) = rest_offered l cost few free o in omega (arith, least.least s w c)

  -- The label does not let it pass: nothing is offered.
  pub rest_barred : ok ≡ false → Looks (frame s up role g) (stayingBy cost l) r (QuietAt (frame s up role g) (stayingBy cost l) r t) T T was was
  rest_barred nay =
      swept_none lowers_chain
      λ x o. let (_, _, _, passes) = rest_offered l cost few free o in
      let z : ◌≡◌ {A = ℕ} 0 1 = cc in absurd (omega arith)
