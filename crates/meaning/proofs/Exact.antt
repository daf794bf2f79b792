-- Sound and closed makes exact: a table of numbers in which each number has its way, and none is larger than its
-- neighbours allow, is the number table. No order of work enters, so the order is free.
use Prim.Native.Nat.{ℕ, ◌<◌, ◌≤◌, min}
use mathlib.Core.Path.{◌≡◌, refl, sym}
use mathlib.Core.List.{[]}
use mathlib.Core.Logic.{◌⊎◌, inl, inr}
use native.Mathlib.Omega.{arith}
use native.Mathlib.Decide.{dec_lt}
use lib.ListN.{length}
use Rattle.meaning.specs.Limits.{terms, none}
use Rattle.meaning.specs.Site.{Site, Within}
use Rattle.meaning.specs.Expression.{Expr, sequence, choice, star, last, Context, whole, test, first_of, second_of, one_of, other_of, round_of, plug}
use Rattle.meaning.specs.Path.{Path}
use Rattle.meaning.specs.Fewest.{Goal, State, finished, Free, sequence_in, sequence_on, sequence_out, one_in, one_out, other_in, other_out, round_in, round_empty, round_again, round_out, Way, home, held, free, by_step, by_test, attained, never, Numbers}
use Rattle.meaning.specs.Left.{Table, left, value, Near, Leads, Sound, Closed}
use Rattle.meaning.proofs.None.{none_positive, near_self, near_min_first, near_min_second, min_either, home_met, home_meets}
use Rattle.meaning.proofs.States.{WithinRule, free_within}
use Rattle.meaning.proofs.Moves.{move_reaches, move_passes, among}

module _ {s : Site} {g : Goal} {rule : Expr} {n : Table} (closed : Closed s g rule n) where
  free_near : {x y : State} → Free s x y → WithinRule rule x → Near 0 (value n g x) (value n g y)
  free_near (sequence_in {r} {a} {b} {K} {t}) w = closed.sequence_in r a b K w.0 t w.1
  free_near sequence_on w = near_self _
  free_near sequence_out w = near_self _
  free_near (one_in {r} {a} {b} {K} {t}) w = closed.one_in r a b K w.0 t w.1
  free_near one_out w = near_self _
  free_near (other_in {r} {a} {b} {K} {t}) w = closed.other_in r a b K w.0 t w.1
  free_near other_out w = near_self _
  free_near (round_in {r} {a} {K} {t}) w = closed.round_in r a K w.0 t w.1
  free_near (round_empty {r} {a} {K} {t} v) w = closed.round_empty r a K w.0 t w.1 v
  free_near round_again w = near_min_first _ _
  free_near round_out w = near_min_second _ _

  -- in a closed table no way has fewer steps than its state's number
  pub closed_least : Within s → {x : State} {p : Path} → Way s g x p → WithinRule rule x → (value n g x < none) × (value n g x ≤ length p)
  closed_least ok (home {e} {u} m) w =
      let z : left n g e whole u ≡ 0 = home_met g u m in
      let b = none_positive in
      (omega arith, omega arith)
  closed_least ok held w = (none_positive, omega arith)
  closed_least ok (free f v) w =
      let i = closed_least ok v (free_within f w) in
      let h = free_near f w i.0 in
      (h.0, omega arith)
  closed_least ok (by_step {r} {a} {l} {K} {k} {t} {m} {u} v way) w =
      let i = closed_least ok way (w.0, among ok w.1 (move_reaches v)) in
      let h = closed.by_step r a l K w.0 k t m u w.1 v i.0 in
      (h.0, omega arith)
  closed_least ok (by_test {r} {a} {x} {K} {k} {t} {m} {u} v inner way) w =
      let i = closed_least ok way (w.0, among ok w.1 (move_reaches v)) in
      let j = closed_least ok inner (w.0, among ok w.1 (move_passes v)) in
      let h = closed.by_test r a x K w.0 k t m u w.1 v j.0 i.0 in
      (h.0, omega arith)

-- a way of that length, with one thing more in front that costs no step
pub leads_free : {s : Site} {g : Goal} {x y : State} {n : ℕ} → Free s x y → Leads s g y n → Leads s g x n
leads_free f l = (l.0, free f l.1, l.2)

module _ {s : Site} {g : Goal} {rule : Expr} {n : Table} (sound : Sound s g rule n) where
  -- in a sound table what is left has its way too
  pub left_leads : (e : Expr) (K : Context) → plug e K ≡ rule → (u : ℕ) → u < terms → left n g e K u < none → Leads s g (finished e K u) (left n g e K u)
  left_leads e whole p u b h = let m = home_meets g u h in ([], home m.0, sym m.1)
  left_leads e (test r a K) p u b h = ([], held, refl)
  left_leads e (first_of r c K) p u b h = leads_free sequence_on (sound.leads c (second_of r e K) p u b h)
  left_leads e (second_of r a K) p u b h = leads_free sequence_out (left_leads (sequence r a e) K p u b h)
  left_leads e (one_of r c K) p u b h = leads_free one_out (left_leads (choice r e c) K p u b h)
  left_leads e (other_of r a K) p u b h = leads_free other_out (left_leads (choice r a e) K p u b h)
  left_leads e (round_of r K) p u b h =
      either (min_either (n (last e) u) (left n g (star r e) K u)) (λ h'. left_leads (star r e) K p u b h')
    where
      either : (min (n (last e) u) (left n g (star r e) K u) ≡ n (last e) u) ⊎ (min (n (last e) u) (left n g (star r e) K u) ≡ left n g (star r e) K u) →
          (left n g (star r e) K u < none → Leads s g (finished (star r e) K u) (left n g (star r e) K u)) →
          Leads s g (finished e (round_of r K) u) (min (n (last e) u) (left n g (star r e) K u))
      either (inl q) f = rw q (leads_free round_again (sound.leads e (round_of r K) p u b (omega arith)))
      either (inr q) f = rw q (leads_free round_out (f (omega arith)))

-- a sound and closed table is the number table
pub exact : {s : Site} {g : Goal} {rule : Expr} {n : Table} → Within s → ((r t : ℕ) → n r t ≤ none) →
    Sound s g rule n → Closed s g rule n → Numbers s g rule n
unfolding Numbers
exact {s} {g} {rule} {n} ok top sound closed e K p t b =
    elim (dec_lt (n (last e) t) none) [
      | yes h ↦ let l = sound.leads e K p t b h in
          attained l.0 l.1 l.2 h (λ q w. (closed_least closed ok w (p, b)).1)
      | no h ↦ never (let k = top (last e) t in omega arith) (λ q w. h (closed_least closed ok w (p, b)).0)
    ]
