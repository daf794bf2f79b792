-- The work of a record, read off the lists, is the work of the subexpression that it names; and what that work offers
-- in a sound table has its way.
use Prim.Native.Nat.{ℕ, ◌<◌}
use mathlib.Core.Path.{◌≡◌, refl, subst}
use mathlib.Core.Logic.{⊎_elim}
use mathlib.Core.List.Memᴰ
use mathlib.Core.List.{List, [], ◌∷◌, Memᴰ}
use native.Mathlib.Omega.{arith}
use lib.ListN.{get_or}
use Rattle.meaning.specs.Limits.{terms, none}
use Rattle.meaning.specs.Site.{Site, Within}
use Rattle.meaning.specs.Move.{Axis, Label}
use Rattle.meaning.specs.Expression.{Rec, starring, Expr, step, tested, sequence, choice, star, last, Expression, Context, test, first_of, one_of, other_of, round_of, plug}
use Rattle.meaning.specs.Path.{taken}
use Rattle.meaning.specs.Fewest.{Goal, State, entered, Free, sequence_in, one_in, other_in, round_in, round_empty, by_step, by_test}
use Rattle.meaning.specs.Left.{Leads, Sound}
use Rattle.meaning.proofs.Exact.{leads_free}
use Rattle.meaning.proofs.Moves.{move_reaches, move_passes, among}
use Rattle.meaning.proofs.Postfix.{own, own_record}
use Rattle.fewest.specs.Frame.{Links, Linked, Frame}
use Rattle.fewest.specs.Offer.{view, Work, stepping, proving, copying, resting, works_of, Offer, by_step, by_test, by_row, by_rest}
use Rattle.fewest.proofs.Roles.{along, operand_before, continues_leads}

-- the work of a subexpression
abbrev pub works : Expr → List Work
works (step r a l) = stepping a l ∷ []
works (tested r a x) = proving a ∷ []
works (sequence r a b) = copying (last a) ∷ []
works (choice r a b) = copying (last a) ∷ (copying (last b) ∷ [])
works (star r a) = copying (last a) ∷ (resting ∷ [])

module _ {rs : List Rec} {rule : Expr} {L : Links} (x : Expression rs rule) (linked : Linked rule L) where
  own_works : (e : Expr) (K : Context) → plug e K ≡ rule → works_of (own e) (last e) (get_or L.first (last e) 0) ≡ works e
  own_works (step r a l) K p = refl
  own_works (tested r a y) K p = refl
  own_works (sequence r a b) K p = rw (linked.sequences r a b K p)
  own_works (choice r a b) K p = rw (linked.choices r a b K p, operand_before x.numbered (choice r a b) K p)
  own_works (star r a) K p = rw (operand_before x.numbered (star r a) K p)

  pub record_works : (e : Expr) (K : Context) → plug e K ≡ rule →
      works_of (get_or rs (last e) starring) (last e) (get_or L.first (last e) 0) ≡ works e
  record_works e K p = rw (own_record x e K p) (own_works e K p)

by_work : {F : Frame} {T : List ℕ} {r t v : ℕ} {w z : Work} → w ≡ z → Offer F T r t w v → Offer F T r t z v
by_work {F} {T} {r} {t} {v} e o = subst (λ w. Offer F T r t w v) e o

-- what a copy offers is what it copies
copied : {F : Frame} {T : List ℕ} {r t q v : ℕ} → Offer F T r t (copying q) v → v ≡ view T q t
copied by_row = refl

module _ {rs : List Rec} {rule : Expr} {L : Links} (x : Expression rs rule) (linked : Linked rule L) {s : Site} {g : Goal} {T : List ℕ}
    (ok : Within s) (sound : Sound s g rule (view T)) where
  step_leads : (r : ℕ) (a : Axis) (l : Label) (K : Context) {t v : ℕ} → plug (step r a l) K ≡ rule → t < terms →
      Offer (along L s g) T r t (stepping a l) v → v < none → Leads s g (entered (step r a l) K t) v
  step_leads r a l K p b (by_step {k = k} {u = u} m c) h =
      let (q, way, long) = continues_leads x.numbered linked sound (step r a l) K p (among ok b (move_reaches m)) c (omega arith) in
      (taken r k u ∷ q, by_step m way, omega arith)

  test_leads : (r : ℕ) (a : Axis) (y : Expr) (K : Context) {t v : ℕ} → plug (tested r a y) K ≡ rule → t < terms →
      Offer (along L s g) T r t (proving a) v → v < none → Leads s g (entered (tested r a y) K t) v
  test_leads r a y K p b (by_test {k = k} {m = m} {u = u} move holds c) h =
      let number = rw (operand_before x.numbered (tested r a y) K p) at holds in
      let inner = sound.leads y (test r a K) p m (among ok b (move_passes move)) number in
      let (q, way, long) = continues_leads x.numbered linked sound (tested r a y) K p (among ok b (move_reaches move)) c (omega arith) in
      (taken r k u ∷ q, by_test move inner.1 way, omega arith)

  copy_leads : {z : State} (e : Expr) (K : Context) {r t v : ℕ} → Free s z (entered e K t) → plug e K ≡ rule → t < terms →
      Offer (along L s g) T r t (copying (last e)) v → v < none → Leads s g z v
  copy_leads e K {t = t} f p b o h = rw (copied o) (leads_free f (sound.leads e K p t b (rw (copied o) at h)))

  rest_leads : (r : ℕ) (a : Expr) (K : Context) {t v : ℕ} → plug (star r a) K ≡ rule → t < terms →
      Offer (along L s g) T r t resting v → v < none → Leads s g (entered (star r a) K t) v
  rest_leads r a K p b (by_rest i c) h = leads_free (round_empty i) (continues_leads x.numbered linked sound (star r a) K p b c h)

  works_lead : (e : Expr) (K : Context) {w : Work} {t v : ℕ} → plug e K ≡ rule → Memᴰ w (works e) → t < terms →
      Offer (along L s g) T (last e) t w v → v < none → Leads s g (entered e K t) v
  works_lead (step r a l) K p i b o h = step_leads r a l K p b (by_work (Memᴰ.eq_of_singleton i) o) h
  works_lead (tested r a y) K p i b o h = test_leads r a y K p b (by_work (Memᴰ.eq_of_singleton i) o) h
  works_lead (sequence r a c) K p i b o h = copy_leads a (first_of r c K) sequence_in p b (by_work (Memᴰ.eq_of_singleton i) o) h
  works_lead (choice r a c) K p i b o h =
      ⊎_elim (λ j. copy_leads a (one_of r c K) one_in p b (by_work j o) h)
      (λ j. copy_leads c (other_of r a K) other_in p b (by_work (Memᴰ.eq_of_singleton j) o) h) (Memᴰ.cases_cons i)
  works_lead (star r a) K p i b o h =
      ⊎_elim (λ j. copy_leads a (round_of r K) round_in p b (by_work j o) h)
      (λ j. rest_leads r a K p b (by_work (Memᴰ.eq_of_singleton j) o) h) (Memᴰ.cases_cons i)

  -- In a sound table what a record's work offers has its way.
  pub offer_leads : (e : Expr) (K : Context) {w : Work} {t v : ℕ} → plug e K ≡ rule →
      Memᴰ w (works_of (get_or rs (last e) starring) (last e) (get_or L.first (last e) 0)) → t < terms →
      Offer (along L s g) T (last e) t w v → v < none → Leads s g (entered e K t) v
  offer_leads e K p i b o h = works_lead e K p (rw (record_works x linked e K p) at i) b o h
