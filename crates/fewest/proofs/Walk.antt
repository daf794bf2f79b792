-- The walk up the links from a record whose expression is finished, as `left` takes it: what may follow there is among the
-- numbers passed, or may follow the record that the walk has reached. It ends where one number alone may follow.
use Prim.Native.Nat.{ℕ, ◌-◌, ◌<◌, ◌≤◌, min}
use mathlib.Core.Path.{◌≡◌, refl}
use mathlib.Core.Logic.{◌⊎◌, inl, inr, ⊎_elim}
use mathlib.Core.List.{List}
use native.Mathlib.Omega.{arith}
use lib.ListN.{get_or}
use lib.Dec.{eqb}
use Rattle.meaning.specs.Limits.{records, none}
use Rattle.meaning.specs.Site.{Site}
use Rattle.meaning.specs.Fewest.{Goal, end, anywhere}
use Rattle.meaning.specs.Left.{home_left}
use Rattle.meaning.proofs.None.{min_either}
use Rattle.records.proofs.Tests.{by_test}
use Rattle.fewest.specs.Frame.{as_whole, as_test, as_first, as_round, Climbs, frame}
use Rattle.fewest.specs.Offer.{view, Continues, again, ending}
use Rattle.fewest.specs.Work.{Least}
use Rattle.fewest.proofs.Roles.{Says, continues_at, says_continues}

-- the walk from record r has reached record `at`; `best` is the least of the numbers passed, or none
pub record Walked (up role : List ℕ) (g : Goal) (T : List ℕ) (r u at best : ℕ) : Type 0 where
  pub inside : at < records
  pub top : best ≤ none
  pub among : (best ≡ none) ⊎ ((s : Site) → Continues (frame s up role g) T r u best)
  pub onward : (s : Site) (w : ℕ) → Continues (frame s up role g) T at u w → Continues (frame s up role g) T r u w
  pub passed : (s : Site) (w : ℕ) → Continues (frame s up role g) T r u w → (best ≤ w) ⊎ Continues (frame s up role g) T at u w

home_top : (g : Goal) (u : ℕ) → home_left g u ≤ none
home_top (end v) u = by_test (λ x. x ≤ none) (eqb u v) (λ e. omega arith) (λ e. omega arith)
home_top anywhere u = omega arith

module _ {up role : List ℕ} {g : Goal} {T : List ℕ} where
  pub walk_begins : {r u : ℕ} → r < records → Walked up role g T r u r none
  walk_begins h = record { inside = h; top = omega arith; among = inl refl; onward = λ s w c. c; passed = λ s w c. inr c }

  module _ {r u at best : ℕ} (walk : Walked up role g T r u at best) where
    -- The walk ends at a record with this role, after which v alone may follow: the least is the least so far or v.
    ends : (k : ℕ) {v : ℕ} → get_or role at 0 ≡ k → v ≤ none → ((s : Site) → Says (frame s up role g) T (get_or up at 0) u v k) →
        ((s : Site) (w : ℕ) → Says (frame s up role g) T (get_or up at 0) u w k → w ≡ v) → Least up role g T r u (min best v)
    ends k {v} q h here only = record {
      among = λ s. ⊎_elim
          (λ e. ⊎_elim (λ z. let m : min best v ≡ v = omega arith in rw m (last s)) (λ f. rw e (f s)) walk.among)
          (λ e. rw e (last s)) (min_either best v);
      least = λ s w c. ⊎_elim (λ l. omega arith) (λ d. let e = only s w (continues_at k q d) in omega arith) (walk.passed s w c);
      top = let t = walk.top in omega arith;
    }
      where
        last : (s : Site) → Continues (frame s up role g) T r u v
        last s = walk.onward s v (says_continues k q (here s))

    -- The three ends: the whole rule, a test, the first of a sequence.
    pub walk_home : get_or role at 0 ≡ as_whole → Least up role g T r u (min best (home_left g u))
    walk_home q = ends as_whole q (home_top g u) (λ s. refl) (λ s w e. e)

    pub walk_held : get_or role at 0 ≡ as_test → Least up role g T r u 0
    walk_held q =
        let m : min best 0 ≡ 0 = omega arith in
        rw m at (ends as_test {v = 0} q (omega arith) (λ s. refl) (λ s w e. e))

    pub walk_first : get_or role at 0 ≡ as_first → view T (get_or up at 0 - 1) u ≤ none →
        Least up role g T r u (min best (view T (get_or up at 0 - 1) u))
    walk_first q h = ends as_first q h (λ s. refl) (λ s w e. e)

    -- One star up: its operand may run again.
    pub walk_up : Climbs records up role → get_or role at 0 ≡ as_round →
        Walked up role g T r u (get_or up at 0) (min best (view T (get_or up at 0 - 1) u))
    walk_up climbs q =
        let round = view T (get_or up at 0 - 1) u in record {
          inside = (climbs.higher at walk.inside (λ e. omega arith)).1;
          top = let t = walk.top in omega arith;
          among = ⊎_elim (λ e. rw e walk.among) (λ e. inr (λ s. rw e (walk.onward s round (again q)))) (min_either best round);
          onward = λ s w c. walk.onward s w (ending q c);
          passed = λ s w c. ⊎_elim (λ l. inl (omega arith))
              (λ d. ⊎_elim (λ e. inl (omega arith)) inr (continues_at as_round q d)) (walk.passed s w c);
        }
