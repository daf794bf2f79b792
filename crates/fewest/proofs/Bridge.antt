-- From the lists and the table that the loops know to the number table of document 01: lowering entries to what is
-- offered keeps the table sound, and when nothing offered is lower it is closed. So it is the number table.
use Prim.Native.Nat.{ℕ, ◌+◌, ◌*◌, ◌<◌, ◌≤◌}
use mathlib.Core.Path.{◌≡◌, refl, ◌∙◌}
use mathlib.Core.Logic.{⊎_elim}
use mathlib.Core.List.{List, Memᴰ}
use native.Mathlib.Omega.{arith}
use lib.ListN.{length, get_or, set, replicate, get_or-replicate}
use Rattle.meaning.specs.Limits.{terms, records, none}
use Rattle.meaning.specs.Site.{Site, Within}
use Rattle.meaning.specs.Expression.{Rec, starring, Expr, step, tested, sequence, choice, star, last, Expression, Context, plug}
use Rattle.meaning.specs.Fewest.{Goal, Numbers}
use Rattle.meaning.specs.Left.{left, Near, Sound, Closed}
use Rattle.meaning.proofs.Exact.{exact}
use Rattle.meaning.proofs.Names.{node_below}
use Rattle.meaning.proofs.Postfix.{expression_long}
use Rattle.fewest.specs.Frame.{Links, Linked}
use Rattle.fewest.specs.Offer.{place, view, Continues, Work, copying, works_of, Offer, by_step, by_test, by_row, by_rest, Lowers, stay, lower, Settles, rest, work, Settled}
use Rattle.fewest.specs.Bounded.{Bounded}
use Rattle.fewest.proofs.Places.{one_place, place_below, entry_inside, stored}
use Rattle.fewest.proofs.Bound.{bounded_full, fresh_below}
use Rattle.fewest.proofs.Roles.{along, operand_before, left_continues}
use Rattle.fewest.proofs.Lowering.{continues_fresh, lowers_bounded, settles_bounded, settles_rest}
use Rattle.fewest.proofs.Works.{works, record_works, offer_leads}

-- each subexpression's last record is one of the rule's
pub node_record : {rs : List Rec} {rule : Expr} → Expression rs rule → (e : Expr) (K : Context) → plug e K ≡ rule → last e < length rs
node_record x e K p = omega (arith, rw p at (node_below e K (rw p x.numbered)), expression_long x)

-- the table full of none, and that it is sound: it has no number
full_none : (r t : ℕ) → r < records → t < terms → view (replicate (records * terms) none) r t ≡ none
unfolding view
full_none r t h b = get_or-replicate (records * terms) (place r t) none 0 (place_below h b)

full_sound : {rs : List Rec} {rule : Expr} {s : Site} {g : Goal} → Expression rs rule → length rs ≤ records →
    Sound s g rule (view (replicate (records * terms) none))
full_sound x few = record { leads = λ e K p t b h. absurd (omega (arith, full_none (last e) t (omega (arith, node_record x e K p)) b)) }

module _ {rs : List Rec} {rule : Expr} {L : Links} {s : Site} {g : Goal} (x : Expression rs rule) (linked : Linked rule L) where
  -- a store of what is offered keeps the table sound
  store_sound : {T : List ℕ} {r t v : ℕ} {w : Work} → Within s → Memᴰ w (works_of (get_or rs r starring) r (get_or L.first r 0)) →
      t < terms → Offer (along L s g) T r t w v → v < view T r t → Bounded T →
      Sound s g rule (view T) → Sound s g rule (view (set T (place r t) v))
  unfolding view
  store_sound {T} {r} {t} {v} ok i b o l bound sound = record {
    leads = λ e K p u c h. ⊎_elim
        (λ z. let (q, j) = one_place c b z.0 in
        let k = bound.top (place r t) in
        rw z.1 (offer_leads x linked ok sound e K p (rw (← q) at i) c (rw (← q, ← j) at o) (omega arith)))
        (λ z. rw z (sound.leads e K p u c (rw z at h)))
        (stored T (place r t) v (entry_inside T (place r t) l) (place (last e) u));
  }

  pub lowers_sound : {r : ℕ} {w : Work} {T U : List ℕ} → Within s → Memᴰ w (works_of (get_or rs r starring) r (get_or L.first r 0)) →
      Lowers (along L s g) w r T U → Bounded T → Sound s g rule (view T) → Sound s g rule (view U)
  lowers_sound ok i stay b sound = sound
  lowers_sound ok i (lower q h o l) b sound = store_sound ok i h o l (lowers_bounded q b) (lowers_sound ok i q b sound)

  -- Lowering to what is offered keeps the table sound.
  pub settles_sound : {T U : List ℕ} → Within s → Settles (along L s g) rs L.first T U → Bounded T →
      Sound s g rule (view T) → Sound s g rule (view U)
  settles_sound ok rest b sound = sound
  settles_sound ok (work q h i l) b sound = lowers_sound ok i l (settles_bounded q b) (settles_sound ok q b sound)

  module _ {T : List ℕ} (settled : Settled (along L s g) rs L.first T) (bound : Bounded T) where
    -- nothing that a subexpression's work offers is lower
    quiet : (e : Expr) (K : Context) → plug e K ≡ rule → {w : Work} → Memᴰ w (works e) → {t v : ℕ} → t < terms →
        Offer (along L s g) T (last e) t w v → view T (last e) t ≤ v
    quiet e K p {w} i {t} {v} b o =
        settled.quiet (last e) w (node_record x e K p) (rw (record_works x linked e K p) i) t v b o

    near_copy : (e : Expr) (K : Context) → plug e K ≡ rule → {q : ℕ} → Memᴰ (copying q) (works e) → (t : ℕ) → t < terms →
        Near 0 (view T (last e) t) (view T q t)
    near_copy e K p i t b h = let k = quiet e K p i b by_row in (omega arith, omega arith)

    near_step : (e : Expr) (K : Context) → plug e K ≡ rule → {w : Work} → Memᴰ w (works e) → {t : ℕ} (u : ℕ) → t < terms →
        (Continues (along L s g) T (last e) u (left (view T) g e K u) → Offer (along L s g) T (last e) t w (left (view T) g e K u + 1)) →
        Near 1 (view T (last e) t) (left (view T) g e K u)
    near_step e K p i u b offer h =
        let c = left_continues x.numbered linked e K p u in
        let k = quiet e K p i b (offer c) in
        let f = fresh_below bound (continues_fresh c h) in
        (omega arith, omega arith)

    -- A settled table is closed.
    pub settled_closed : Closed s g rule (view T)
    settled_closed = record {
      by_step = λ r a l K p k t m u b move. near_step (step r a l) K p (Memᴰ.head refl) u b (by_step move);
      by_test = λ r a y K p k t m u b move h.
          near_step (tested r a y) K p (Memᴰ.head refl) u b (by_test move (rw (operand_before x.numbered (tested r a y) K p) h));
      sequence_in = λ r a b K p. near_copy (sequence r a b) K p (Memᴰ.head refl);
      one_in = λ r a b K p. near_copy (choice r a b) K p (Memᴰ.head refl);
      other_in = λ r a b K p. near_copy (choice r a b) K p (Memᴰ.tail (Memᴰ.head refl));
      round_in = λ r a K p. near_copy (star r a) K p (Memᴰ.head refl);
      round_empty = λ r a K p t b i h.
          let c = left_continues x.numbered linked (star r a) K p t in
          let k = quiet (star r a) K p (Memᴰ.tail (Memᴰ.head refl)) b (by_rest i c) in
          (omega arith, omega arith);
    }

-- A table that began full of none, was only lowered to what is offered, and is offered nothing lower, is the number table;
-- its rows past the rule's records hold none.
pub settled_numbers : {rs : List Rec} {rule : Expr} {L : Links} {s : Site} {g : Goal} {T U : List ℕ} → Within s → Expression rs rule →
    Linked rule L → length rs ≤ records → T ≡ replicate (records * terms) none →
    Settles (along L s g) rs L.first T U → Settled (along L s g) rs L.first U →
    Numbers s g rule (view U) × ((r t : ℕ) → length rs ≤ r → r < records → t < terms → view U r t ≡ none)
unfolding view
settled_numbers {T = T} ok x linked few full settles settled =
    let began : Bounded T = rw full bounded_full in
    let bound = settles_bounded settles began in
    let sound = settles_sound x linked ok settles began (rw full (full_sound x few)) in (
      exact ok (λ r t. bound.top (place r t)) sound (settled_closed x linked settled bound),
      λ r t past h b. settles_rest settles r t past b ∙ rw full (full_none r t h b),
    )
