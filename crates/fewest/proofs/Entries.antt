-- An entry that was read at its place and lowered, or left: what `lower` promises of the table.
-- The place is counted by the code, and is the place of the record and the term.
use Prim.Native.Nat.{ℕ, ◌<◌, ◌≤◌}
use mathlib.Core.Path.{◌≡◌, refl, ap, ◌∙◌}
use mathlib.Core.Bool.{Bool, true}
use mathlib.Core.List.{List}
use native.Mathlib.Omega.{arith}
use lib.ListN.{get_or, set}
use Rattle.meaning.specs.Limits.{none}
use Rattle.records.specs.Bytes.{base}
use Rattle.fewest.specs.Pairs.{pairs}
use Rattle.fewest.specs.Offer.{place, view}
use Rattle.fewest.specs.Table.{Lowered}
use Rattle.fewest.proofs.Decoded.{pairs_top}

-- no number of bytes is above none
pub view_top : (b : List ℕ) → ((i : ℕ) → get_or b i 0 < base) → (r t : ℕ) → view (pairs b) r t ≤ none
unfolding view none
view_top b bytes r t = let k = pairs_top b bytes (place r t) in omega arith

module _ (T : List ℕ) (r t : ℕ) {i g : ℕ} (here : i ≡ place r t) (read : g ≡ get_or T i 0) where
  pub read_view : g ≡ view T r t
  unfolding view
  read_view = read ∙ ap (λ (j : ℕ). get_or T j 0) here

  pub lowered_yes : {v : ℕ} {T' : List ℕ} (was : Bool) → v < g → T' ≡ set T i v → Lowered r t v T T' was true
  lowered_yes {v} was l e = record {
    lower = λ h. (e ∙ ap (λ (j : ℕ). set T j v) here, refl);
    keep = λ h. absurd (omega (arith, read_view));
  }

  pub lowered_no : {v : ℕ} (was : Bool) → g ≤ v → Lowered r t v T T was was
  lowered_no was l = record { lower = λ h. absurd (omega (arith, read_view)); keep = λ h. (refl, refl) }
