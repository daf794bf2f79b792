-- What comparing the lengths tells: whether the tables, and what is lent beside them, have the lengths that a promise asks for.
-- One law each serves every call, in either form.
use Prim.Native.Nat.{ℕ, ◌*◌}
use mathlib.Core.Path.{◌≡◌}
use mathlib.Core.Logic.{◌↔◌}
use mathlib.Core.Bool.{Bool, ◌&&◌}
use mathlib.Core.List.{List}
use native.Mathlib.Decide.{ℕ_discrete}
use lib.ListN.{length}
use lib.Dec.{eqb}
use borrow.Author.Tests.{eq-eqb, ne_eqb}
use Rattle.meaning.specs.Limits.{terms, records}
use Rattle.fewest.specs.Tells.{Tells, holds, fails}
use Rattle.calls.specs.Promise.{Form, length_in, Fits}

-- Three lengths are compared, and one that differs says no.
pub three_tell : (a e n l t w : ℕ) → Tells ((a ≡ e) × (n ≡ l) × (t ≡ w)) (eqb a e && eqb n l && eqb t w)
three_tell a e n l t w = elim (ℕ_discrete a e) [
  | yes f ↦ elim (ℕ_discrete n l) [
    | yes g ↦ elim (ℕ_discrete t w) [
      | yes h ↦ rw (eq-eqb _ _ f, eq-eqb _ _ g, eq-eqb _ _ h) (holds (f, g, h))
      | no h ↦ rw (eq-eqb _ _ f, eq-eqb _ _ g, ne_eqb _ _ h) (fails (λ x. h x.2))
    ]
    | no g ↦ rw (eq-eqb _ _ f, ne_eqb _ _ g) (fails (λ x. g x.1))
  ]
  | no f ↦ rw (ne_eqb _ _ f) (fails (λ x. f x.0))
]

-- The lengths that are compared are the tables', and the third is the one that the promise asks for.
pub fitting : (f : Form) (asked numbers : List ℕ) {A B : Type 0} → A ↔ B → {b : Bool} →
    Tells ((length asked ≡ records * terms) × (length numbers ≡ length_in f (records * terms)) × A) b → Tells (Fits f asked numbers × B) b
fitting f asked numbers same (holds h) = holds (record { asked_fits = h.0; numbers_fit = h.1 }, same.0 h.2)
fitting f asked numbers same (fails n) = fails (λ h. n (h.0.asked_fits, h.0.numbers_fit, same.1 h.1))
