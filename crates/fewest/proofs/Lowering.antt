-- What lowering entries to what is offered keeps: the bound of the table, and the rows that are not worked on.
-- Nothing here knows the rule but by its lists.
use Prim.Native.Nat.{ℕ, ◌+◌, ◌<◌, ◌≤◌}
use mathlib.Core.Path.{◌≡◌, refl, ◌∙◌}
use mathlib.Core.Logic.{inl, ◌≢◌}
use mathlib.Core.List.{List}
use native.Mathlib.Omega.{arith}
use lib.ListN.{length}
use Rattle.meaning.specs.Limits.{terms, none}
use Rattle.meaning.specs.Expression.{Rec}
use Rattle.meaning.proofs.None.{home_meets}
use Rattle.fewest.specs.Frame.{Frame}
use Rattle.fewest.specs.Offer.{place, view, Continues, home, held, on, again, ending, Work, Offer, by_step, by_test, by_row, by_rest, Lowers, stay, lower, Settles, rest, work}
use Rattle.fewest.specs.Bounded.{Bounded}
use Rattle.fewest.proofs.Places.{view_set_other}
use Rattle.fewest.proofs.Bound.{Fresh, one_fresh, bounded_store}

module _ {F : Frame} {T : List ℕ} where
  -- where something may follow, one step more is fresh
  pub continues_fresh : {r u v : ℕ} → Continues F T r u v → v < none → Fresh T (v + 1)
  unfolding view
  continues_fresh (home {u = u} q) h = rw (home_meets F.goal u h).1 (one_fresh T)
  continues_fresh (held q) h = one_fresh T
  continues_fresh (on q) h = (_, h, omega arith)
  continues_fresh (again q) h = (_, h, omega arith)
  continues_fresh (ending q c) h = continues_fresh c h

  -- so what is offered is fresh
  pub offer_fresh : {r t v : ℕ} {w : Work} → Offer F T r t w v → v < none → Fresh T v
  unfolding view
  offer_fresh (by_step m c) h = continues_fresh c (omega arith)
  offer_fresh (by_test m i c) h = continues_fresh c (omega arith)
  offer_fresh by_row h = (_, h, omega arith)
  offer_fresh (by_rest x c) h = let (i, l, k) = continues_fresh c h in (i, l, omega arith)

module _ {F : Frame} {w : Work} {r : ℕ} where
  -- the bound is kept
  pub lowers_bounded : {T U : List ℕ} → Lowers F w r T U → Bounded T → Bounded U
  unfolding view
  lowers_bounded stay b = b
  lowers_bounded (lower {U} {t} {v} q h o l) b =
      let c = lowers_bounded q b in
      let top = c.top (place r t) in
      bounded_store c (place r t) v l (offer_fresh o (omega arith))

  -- the other rows are as they were
  pub lowers_rest : {T U : List ℕ} → Lowers F w r T U → (q t : ℕ) → r ≢ q → t < terms → view U q t ≡ view T q t
  lowers_rest stay q t a b = refl
  lowers_rest (lower {U} {v = v} l h o k) q t a b = view_set_other U v h b (inl a) ∙ lowers_rest l q t a b

module _ {F : Frame} {rs : List Rec} {first : List ℕ} where
  -- The bound is kept.
  pub settles_bounded : {T U : List ℕ} → Settles F rs first T U → Bounded T → Bounded U
  settles_bounded rest b = b
  settles_bounded (work q h i l) b = lowers_bounded l (settles_bounded q b)

  -- The rows past the rule's records are as they were.
  pub settles_rest : {T U : List ℕ} → Settles F rs first T U → (r t : ℕ) → length rs ≤ r → t < terms → view U r t ≡ view T r t
  settles_rest rest r t a b = refl
  settles_rest (work q h i l) r t a b = lowers_rest l r t (omega arith) b ∙ settles_rest q r t a b
