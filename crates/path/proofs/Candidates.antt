-- The candidates for the next step, told by the lists and the number table, are the steps that the state offers and
-- that begin a shortest way from it.
use Prim.Native.Nat.{ℕ, ◌-◌, ◌<◌, ◌≤◌}
use mathlib.Core.Path.{◌≡◌, sym, subst, ◌∙◌}
use mathlib.Core.Logic.{◌↔◌}
use mathlib.Core.List.{List}
use native.Mathlib.Omega.{arith}
use lib.ListN.{get_or}
use Rattle.std.specs.Prelude.{Option}
use Rattle.meaning.specs.Limits.{terms, none}
use Rattle.meaning.specs.Site.{Site, Within}
use Rattle.meaning.specs.Move.{Axis, Move, any}
use Rattle.meaning.specs.Relation.{Holds}
use Rattle.meaning.specs.Expression.{Rec, plain, testing, joining, choosing, starring, Expr, step, tested, last, Context, test, plug, sequence, choice, star}
use Rattle.meaning.specs.Fewest.{Goal, State, finished, Way, Fewest, Numbers}
use Rattle.meaning.specs.Left.{left}
use Rattle.meaning.proofs.Moves.{move_passes, move_reaches, among}
use Rattle.meaning.proofs.Ways.{fewest_holds, fewest_unique}
use Rattle.meaning.proofs.Offers.{Opens, opens_rule, Takes, Offers}
use Rattle.meaning.proofs.Postfix.{own, own_record}
use Rattle.fewest.specs.declared.links.Links.{Links}
use Rattle.fewest.specs.Frame.{Frame}
use Rattle.fewest.specs.Offer.{view, Continues}
use Rattle.fewest.proofs.Roles.{along, operand_before, left_continues, continues_left}
use Rattle.path.specs.Pick.{Carries, by_step, by_test, Candidate}
use Rattle.path.specs.Walking.{Known, Stands}
use Rattle.path.proofs.Remaining.{left_fewest}
use Rattle.path.proofs.Entering.{stands_rule, stands_place, enters_opens, opens_enters}

-- what it is to carry, by the record
abbrev CarriesBy : Site → List ℕ → (r k t u : ℕ) → Rec → Type 0
CarriesBy s T r k t u (plain a l) = (m : ℕ) × Move s a l k t m u
CarriesBy s T r k t u (testing a) = (m : ℕ) × Move s a any k t m u × (view T (r - 1) m < none)
CarriesBy s T r k t u joining = ⊥
CarriesBy s T r k t u choosing = ⊥
CarriesBy s T r k t u starring = ⊥

carries_by : {F : Frame} {T : List ℕ} {rs : List Rec} {r k t u : ℕ} → Carries F T rs r k t u → CarriesBy F.site T r k t u (get_or rs r starring)
carries_by (by_step {m = m} q move) = rw q (m, move)
carries_by (by_test {m = m} q move h) = rw q (m, move, h)

-- a step from one of the terms leads to one of the terms
takes_among : {s : Site} → Within s → (e : Expr) (k u : ℕ) {t : ℕ} → t < terms → Takes s e k t u → u < terms
takes_among ok (step r a l) k u b (m, move) = among ok b (move_reaches move)
takes_among ok (tested r a y) k u b (m, move, holds) = among ok b (move_reaches move)
takes_among ok (sequence _ _ _) k u b x = elim x [ ]
takes_among ok (choice _ _ _) k u b x = elim x [ ]
takes_among ok (star _ _) k u b x = elim x [ ]

module _ {rs : List Rec} {rule : Expr} {L : Links} {s : Site} {g : Goal} {T : List ℕ} (known : Known rs rule L s g T) where
  -- the row before a tested step tells where its test holds
  test_holds : (r : ℕ) (a : Axis) (y : Expr) (K : Context) {k t m u : ℕ} → plug (tested r a y) K ≡ rule → t < terms → Move s a any k t m u →
      (view T (r - 1) m < none) ↔ Holds s y m
  unfolding Numbers
  test_holds r a y K {m = m} p b move =
      rw (operand_before known.expression.numbered (tested r a y) K p)
      (fewest_holds s g r a y K m (known.numbers y (test r a K) p m (among known.within b (move_passes move))))

  own_takes : (e : Expr) (K : Context) (k u : ℕ) {t : ℕ} → plug e K ≡ rule → t < terms → CarriesBy s T (last e) k t u (own e) → Takes s e k t u
  own_takes (step r a l) K k u p b c = c
  own_takes (tested r a y) K k u p b (m, move, h) = (m, move, (test_holds r a y K p b move).0 h)
  own_takes (sequence _ _ _) K k u p b c = elim c [ ]
  own_takes (choice _ _ _) K k u p b c = elim c [ ]
  own_takes (star _ _) K k u p b c = elim c [ ]

  -- What a record carries is what its step takes.
  carries_takes : (e : Expr) (K : Context) {k t u : ℕ} → plug e K ≡ rule → t < terms → Carries (along L s g) T rs (last e) k t u → Takes s e k t u
  carries_takes e K {k} {u = u} p b c = own_takes e K k u p b (rw (own_record known.expression e K p) at (carries_by c))

  takes_carries : (e : Expr) (K : Context) {k t u : ℕ} → plug e K ≡ rule → t < terms → Takes s e k t u → Carries (along L s g) T rs (last e) k t u
  takes_carries (step r a l) K p b (m, move) = by_step (own_record known.expression (step r a l) K p) move
  takes_carries (tested r a y) K p b (m, move, holds) =
      by_test (own_record known.expression (tested r a y) K p) move ((test_holds r a y K p b move).1 holds)
  takes_carries (sequence _ _ _) K p b x = elim x [ ]
  takes_carries (choice _ _ _) K p b x = elim x [ ]
  takes_carries (star _ _) K p b x = elim x [ ]

  -- What may follow at the least is what is left, and so the fewest steps of a way from there.
  least_fewest : (e : Expr) (K : Context) {u d : ℕ} → plug e K ≡ rule → u < terms → Continues (along L s g) T (last e) u d →
      ((v : ℕ) → Continues (along L s g) T (last e) u v → d ≤ v) → Fewest (Way s g (finished e K u)) d
  least_fewest e K {u} {d} p b c least =
      let numbered = known.expression.numbered in
      let up = least _ (left_continues numbered known.linked e K p u) in
      let down = continues_left numbered known.linked e K p c in
      let q : left (view T) g e K u ≡ d = omega arith in
      subst (Fewest (Way s g (finished e K u))) q (left_fewest (view T) known.numbers e K p u b)

  -- and the other way round
  fewest_left : (e : Expr) (K : Context) {u d : ℕ} → plug e K ≡ rule → u < terms → Fewest (Way s g (finished e K u)) d → left (view T) g e K u ≡ d
  fewest_left e K {u} p b f = fewest_unique (left_fewest (view T) known.numbers e K p u b) f

  module _ {z : Option ℕ} {t d k u : ℕ} {y : State} (stands : Stands rule z t y) (b : t < terms) where
    node_offers : {r : ℕ} (e : Expr) (K : Context) → Opens s y e K → last e ≡ r → Candidate (along L s g) T rs L.first z t d r k u →
        (u < terms) × Offers s y e K k u × Fewest (Way s g (finished e K u)) d
    node_offers e K opens q c =
        let p = opens_rule opens ∙ stands_rule stands in
        let i = subst (λ r. Candidate (along L s g) T rs L.first z t d r k u) (sym q) c in
        let takes = carries_takes e K p b i.carries in
        let below = takes_among known.within e k u b takes in (
          below,
          record { opens = opens; takes = rw (stands_place stands) takes },
          least_fewest e K p below i.left i.least,
        )

    -- Each candidate is a step that the state offers, with as many steps left after it.
    pub candidate_offers : {r : ℕ} → Candidate (along L s g) T rs L.first z t d r k u →
        (e : Expr) × (K : Context) × (last e ≡ r) × (u < terms) × Offers s y e K k u × Fewest (Way s g (finished e K u)) d
    candidate_offers c =
        let (e, K, opens, q) = enters_opens known.expression known.linked stands c.enters in
        let (below, offers, fewest) = node_offers e K opens q c in
        (e, K, q, below, offers, fewest)

    -- Each step that the state offers is a candidate for as many steps as are left after it.
    pub offers_candidate : {e : Expr} {K : Context} → Offers s y e K k u → Fewest (Way s g (finished e K u)) d →
        Candidate (along L s g) T rs L.first z t d (last e) k u
    offers_candidate {e} {K} offers fewest =
        let p = opens_rule offers.opens ∙ stands_rule stands in
        let takes = rw (stands_place stands) at offers.takes in
        let q = fewest_left e K p (takes_among known.within e k u b takes) fewest in
        let numbered = known.expression.numbered in
        record {
          enters = opens_enters known.expression known.linked s g stands offers.opens;
          carries = takes_carries e K p b takes;
          left = subst (Continues (along L s g) T (last e) u) q (left_continues numbered known.linked e K p u);
          least = λ v c. omega (arith, continues_left numbered known.linked e K p c);
        }
