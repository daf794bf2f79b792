-- Marking over the records of a rule stays inside them: what a record of the rule asks for is one, so no other is ever marked.
-- The links and the operands lead to records of the rule, and that is all that is known of them here.
use Prim.Native.Nat.{ℕ, ◌*◌, ◌-◌, ◌<◌, ◌≤◌}
use mathlib.Core.Path.{◌≡◌, ◌∙◌}
use mathlib.Core.Logic.{◌≢◌, inl, ⊎_elim}
use mathlib.Core.List.Memᴰ
use mathlib.Core.List.{List, Memᴰ}
use native.Mathlib.Omega.{arith}
use lib.ListN.{length, get_or, replicate, get_or-replicate}
use Rattle.meaning.specs.Limits.{terms, records}
use Rattle.meaning.specs.Site.{Site}
use Rattle.meaning.specs.Expression.{Rec, plain, testing, joining, choosing, starring}
use Rattle.meaning.specs.Fewest.{Goal}
use Rattle.fewest.specs.Frame.{as_whole, frame}
use Rattle.fewest.specs.Next.{Next, on, again, ending}
use Rattle.fewest.specs.Offer.{place, view, Work, copying, works_of}
use Rattle.fewest.proofs.Places.{place_below, view_set_other}
use Rattle.asked.specs.Mark.{Marks, begun, Wants, follows, tests, enters, asking, Marking, stay, mark, arrive, MarksOn, rest, work}

-- no question of the records from number n on is marked
abbrev pub UnmarkedFrom : ℕ → Marks → Type 0
UnmarkedFrom n M = (r t : ℕ) → n ≤ r → r < records → t < terms → view M.asked r t ≡ 0

-- a row is copied from an operand's: the first operand's, or that of the record before it
copies_inside : (x : Rec) {n r f q : ℕ} → r < n → f < n → Memᴰ (copying q) (works_of x r f) → q < n
copies_inside (plain a l) h k m = let e = Memᴰ.eq_of_singleton m in let z : ◌≡◌ {A = ℕ} 0 1 = cc in absurd (omega arith)
copies_inside (testing a) h k m = let e = Memᴰ.eq_of_singleton m in let z : ◌≡◌ {A = ℕ} 0 1 = cc in absurd (omega arith)
copies_inside joining {f = f} {q} h k m = let e = Memᴰ.eq_of_singleton m in let z : q ≡ f = cc in omega arith
copies_inside choosing {r = r} {f} {q} h k m = ⊎_elim (λ e. let z : q ≡ f = cc in omega arith)
    (λ i. let e = Memᴰ.eq_of_singleton i in let z : q ≡ r - 1 = cc in omega arith) (Memᴰ.cases_cons m)
copies_inside starring {r = r} {q = q} h k m = ⊎_elim (λ e. let z : q ≡ r - 1 = cc in omega arith)
    (λ i. let e = Memᴰ.eq_of_singleton i in let z : ◌≡◌ {A = ℕ} 0 1 = cc in absurd (omega arith)) (Memᴰ.cases_cons m)

-- to begin with none of them is: the one question that is marked is of a record before them
begun_inside : {n r z : ℕ} (k : ℕ) → r < n → z < terms → UnmarkedFrom n (begun r z k)
unfolding begun view
begun_inside {r = r} {z} k h l q t from few m =
    view_set_other (replicate (records * terms) 0) {r = r} {q = q} {t = z} {u = t} 1 l m (inl (omega arith)) ∙ get_or-replicate (records * terms) (place q t) 0 0 (place_below few m)

module _ {s : Site} {up role : List ℕ} {g : Goal} {n : ℕ} (inside : (r : ℕ) → r < n → get_or role r 0 ≢ as_whole → get_or up r 0 < n) where
  -- What follows a record of the rule is one, and so is all that it asks for.
  next_inside : {r b : ℕ} → r < n → Next (frame s up role g) r b → b < n
  next_inside {r} h (on q) = let k = inside r h (omega arith) in omega arith
  next_inside {r} h (again q) = let k = inside r h (omega arith) in omega arith
  next_inside {r} h (ending q e) = next_inside (inside r h (omega arith)) e

  module _ {T : List ℕ} {r f : ℕ} (x : Rec) (h : r < n) (k : f < n) where
    wants_inside : {w : Work} {t b v : ℕ} → Memᴰ w (works_of x r f) → Wants (frame s up role g) T r t b v w → b < n
    wants_inside i (follows l e) = next_inside h e
    wants_inside i (tests e m) = omega arith
    wants_inside i (enters e m) = let c = copies_inside x h k i in omega arith

    -- So its work marks no other.
    marking_inside : {w : Work} {M N : Marks} → Memᴰ w (works_of x r f) → Marking (frame s up role g) T w r M N → UnmarkedFrom n M → UnmarkedFrom n N
    marking_inside i stay out = out
    marking_inside i (mark {N} {b} {t} c l (asking m j a) z) out = λ q u from few o.
        let own = wants_inside i a in
        view_set_other N.asked {r = b} {q = q} {t = t} {u = u} 1 l o (inl (omega arith)) ∙ marking_inside i c out q u from few o
    marking_inside i (arrive c l d o z) out = marking_inside i c out

module _ {s : Site} {up role : List ℕ} {g : Goal} {T : List ℕ} {rs : List Rec} {first : List ℕ}
    (inside : (r : ℕ) → r < length rs → get_or role r 0 ≢ as_whole → get_or up r 0 < length rs)
    (firsts : (r : ℕ) → r < length rs → get_or first r 0 < length rs) where
  pub stays_unmarked : {M N : Marks} → MarksOn (frame s up role g) T rs first M N → UnmarkedFrom (length rs) M → UnmarkedFrom (length rs) N
  stays_unmarked rest out = out
  stays_unmarked (work {r} c h i l) out = marking_inside inside (get_or rs r starring) h (firsts r h) i l (stays_unmarked c out)

  -- From the whole rule's question on, none is marked but of a record of the rule.
  pub unmarked_out : {z : ℕ} {N : Marks} (k : ℕ) → MarksOn (frame s up role g) T rs first (begun (length rs - 1) z k) N → 0 < length rs → z < terms →
      UnmarkedFrom (length rs) N
  unmarked_out k c some h = stays_unmarked c (begun_inside k (omega arith) h)
