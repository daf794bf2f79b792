-- The subjects of an accepted site never fall.
use Prim.Native.Nat.{ℕ, zero, suc, ◌+◌, ◌<◌, ◌≤◌}
use native.Mathlib.Nat.{eq-or-lt_of_le}
use native.Mathlib.Omega.{arith}
use mathlib.Core.Path.{◌≡◌}
use mathlib.Core.List.{List}
use mathlib.Core.Logic.{⊎_elim}
use lib.ListN.{length}
use Rattle.meaning.specs.Site.{Triple, Site, triple}
use Rattle.records.specs.Sites.{site_of, Above, by_subject, by_predicate, by_object, Ascending, Accepted}
use Rattle.records.proofs.Sites.{length-site_of}

-- of n triples none has a lower subject than one before it
abbrev Rising : Site → ℕ → Type 0
Rising s n = (j k : ℕ) → j ≤ k → k < n → (triple s j).subject ≤ (triple s k).subject

above_subject : {x y : Triple} → Above x y → y.subject ≤ x.subject
above_subject (by_subject h) = omega arith
above_subject (by_predicate e h) = omega arith
above_subject (by_object e p h) = omega arith

subjects_rise : (s : Site) → Ascending s → Rising s (length s)
subjects_rise s up j zero l h = let e : j ≡ 0 = omega arith in rw e (omega arith)
subjects_rise s up j (suc k) l h =
    ⊎_elim (λ e. rw e (omega arith)) (λ i. later (subjects_rise s up j k (omega arith) (omega arith))) (eq-or-lt_of_le l)
  where
    later : (triple s j).subject ≤ (triple s k).subject → (triple s j).subject ≤ (triple s (suc k)).subject
    later r =
        let next : k + 1 ≡ suc k = omega arith in
        let a = rw next at (above_subject (up k (omega arith))) in
        omega arith

pub accepted_rises : {b : List ℕ} {n : ℕ} → Accepted b n → (j k : ℕ) → j ≤ k → k < n → (triple (site_of b n) j).subject ≤ (triple (site_of b n) k).subject
accepted_rises {b} {n} good = rw (length-site_of b n) at (subjects_rise (site_of b n) good.ascending)
