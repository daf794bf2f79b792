-- What a step record carries, by its label: along an axis that takes triples, one move a triple; along self, staying.
-- And what a step that serves is made of.
use Prim.Native.Nat.{ℕ, ◌-◌, ◌<◌}
use mathlib.Core.Path.{◌≡◌, refl, sym, ◌∙◌}
use mathlib.Core.Logic.{◌≢◌}
use mathlib.Core.Bool.{true}
use mathlib.Core.List.{List}
use native.Mathlib.Omega.{arith}
use lib.ListN.{length, get_or}
use borrow.Author.Tests.{eqb-true, ltb-true, eq-eqb, lt-ltb}
use Rattle.meaning.specs.Limits.{none}
use Rattle.meaning.specs.Site.{Site}
use Rattle.meaning.specs.Move.{Axis, self, Label, any, Allows, Stays, Move, staying, going, coming}
use Rattle.meaning.specs.Expression.{Rec, plain, testing, joining, choosing, starring}
use Rattle.records.specs.declared.Axis.{Axis as CodeAxis}
use Rattle.records.specs.declared.Axis.TheVariants as axes
use Rattle.records.specs.declared.Label as code
use Rattle.records.specs.declared.Label.TheVariants.{Any, Term, Test}
use Rattle.records.specs.Rules.{axis_of, labelled}
use Rattle.fewest.specs.Frame.{Frame}
use Rattle.fewest.specs.Offer.{view}
use Rattle.fewest.specs.Work.{allowing}
use Rattle.path.specs.Pick.{Carries, by_step, by_test as by-proof}
use Rattle.path.specs.Offers.{Stay}

-- what a record of this kind carries; only a step carries anything
abbrev By : Site → List ℕ → (r k t u : ℕ) → Rec → Type 0
By s T r k t u (plain a l) = (m : ℕ) × Move s a l k t m u
By s T r k t u (testing a) = (m : ℕ) × Move s a any k t m u × (view T (r - 1) m < none)
By s T r k t u joining = ⊥
By s T r k t u choosing = ⊥
By s T r k t u starring = ⊥

pub carries_by : {F : Frame} {T : List ℕ} {rs : List Rec} {r k t u : ℕ} (x : Rec) → get_or rs r starring ≡ x → Carries F T rs r k t u →
    By F.site T r k t u x
carries_by x e (by_step {m = m} q move) = rw (sym e ∙ q) (m, move)
carries_by x e (by-proof {m = m} q move h) = rw (sym e ∙ q) (m, move, h)

-- along an axis that takes triples the label only says which middle may be passed
unlabel : {s : Site} {a : Axis} {l : Label} {k t m u : ℕ} → a ≢ self → Move s a l k t m u → Move s a any k t m u × Allows l m
unlabel n (staying x) = absurd (n refl)
unlabel n (going x y) = (going x tt, y)
unlabel n (coming x y) = (coming x tt, y)

relabel : {s : Site} {a : Axis} {l : Label} {k t m u : ℕ} → a ≢ self → Move s a any k t m u → Allows l m → Move s a l k t m u
relabel n (staying x) y = absurd (n refl)
relabel n (going x _) y = going x y
relabel n (coming x _) y = coming x y

pub below : {s : Site} {a : Axis} {k t m u : ℕ} → a ≢ self → Move s a any k t m u → k < length s
below n (staying x) = absurd (n refl)
below n (going x _) = x.below
below n (coming x _) = x.below

stays : {s : Site} {l : Label} {k t m u : ℕ} → Move s self l k t m u → Stays s l k t m u
stays (staying x) = x

-- every axis of the code takes triples
pub goes : (a : CodeAxis) → axis_of a ≢ self
goes axes.Next e = let z : ◌≡◌ {A = ℕ} 0 1 = cc in omega arith
goes axes.NextInverse e = let z : ◌≡◌ {A = ℕ} 0 1 = cc in omega arith
goes axes.Edge e = let z : ◌≡◌ {A = ℕ} 0 1 = cc in omega arith
goes axes.EdgeInverse e = let z : ◌≡◌ {A = ℕ} 0 1 = cc in omega arith
goes axes.Node e = let z : ◌≡◌ {A = ℕ} 0 1 = cc in omega arith
goes axes.NodeInverse e = let z : ◌≡◌ {A = ℕ} 0 1 = cc in omega arith

module _ {F : Frame} {T : List ℕ} {rs : List Rec} {r k t u : ℕ} where
  -- Along an axis that takes triples: a move whose middle the label lets pass.
  module _ {a : Axis} (n : a ≢ self) where
    pub carries_move : (l : code.Label) → get_or rs r starring ≡ labelled a l → Carries F T rs r k t u →
        (m : ℕ) × Move F.site a any k t m u × (allowing T l r m ≡ true)
    carries_move Any e c = let (m, move) = carries_by _ e c in (m, move, refl)
    carries_move (Term i) e c = let (m, move) = carries_by _ e c in let (free, q) = unlabel n move in (m, free, eq-eqb m i q)
    carries_move Test e c = let (m, move, h) = carries_by _ e c in (m, move, lt-ltb _ _ h)

    pub move_carries : (l : code.Label) {m : ℕ} → get_or rs r starring ≡ labelled a l → Move F.site a any k t m u → allowing T l r m ≡ true →
        Carries F T rs r k t u
    move_carries Any e move ok = by_step e move
    move_carries (Term i) {m} e move ok = by_step e (relabel n move (eqb-true m i ok))
    move_carries Test e move ok = by-proof e move (ltb-true _ _ ok)

  -- Along self: staying, by no triple.
  pub carries_stay : (l : code.Label) → get_or rs r starring ≡ labelled self l → Carries F T rs r k t u →
      (k ≡ none) × (u ≡ t) × Stay F.site l t × (allowing T l r t ≡ true)
  carries_stay Any e c = let (m, move) = carries_by _ e c in let x = stays move in (x.number, x.ends, x.rests, refl)
  carries_stay (Term i) e c = let (m, move) = carries_by _ e c in let x = stays move in (x.number, x.ends, tt, eq-eqb t i x.rests)
  carries_stay Test e c =
      let (m, move, h) = carries_by _ e c in
      let x = stays move in
      (x.number, x.ends, x.rests, lt-ltb _ _ (rw x.passes at h))

pub stay_carries : {F : Frame} {T : List ℕ} {rs : List Rec} {r t : ℕ} (l : code.Label) → get_or rs r starring ≡ labelled self l →
    Stay F.site l t → allowing T l r t ≡ true → Carries F T rs r none t t
stay_carries Any e w ok = by_step e (staying (record { number = refl; rests = w; passes = refl; ends = refl }))
stay_carries {t = t} (Term i) e w ok = by_step e (staying (record { number = refl; rests = eqb-true t i ok; passes = refl; ends = refl }))
stay_carries Test e w ok = by-proof e (staying (record { number = refl; rests = w; passes = refl; ends = refl })) (ltb-true _ _ ok)
