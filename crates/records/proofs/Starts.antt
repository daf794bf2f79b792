-- The places where the records of a rule begin, and the array that has them in front.
-- No law here looks at what the records are.
use Prim.Native.Nat.{ℕ, zero, suc, ◌+◌, ◌≤◌, ◌<◌}
use mathlib.Core.Path.{◌≡◌, refl, sym, ◌∙◌}
use mathlib.Core.List.{List, [], ◌∷◌}
use native.Mathlib.Nat.{add-zero}
use native.Mathlib.Omega.{arith}
use native.Mathlib.Decide.{dec_lt, ℕ_discrete}
use lib.ListN.{length, get_or, take, drop, set, replicate, length-map, length-set, length-take, length-replicate, get_or-eq_default}
use lib.Seq.{ext_get_or, get_or-set_same, get_or-set_other, get_or-take, get_or-drop}
use Rattle.std.proofs.lemmas.Bool.{cond_both}
use Rattle.std.proofs.lemmas.List.{get_or-map, get_or-replicate}
use lib.Dec.{leb}
use borrow.Author.Tests.{lt-leb, le-leb}
use Rattle.meaning.specs.Limits.{records}
use Rattle.meaning.specs.Expression.{starring}
use Rattle.records.specs.Rules.{length_of, starts_from, starts_of, rec_at, records_of, Front}

-- A record that begins here, and those from its end on,
pub starts_more : (n : ℕ) (s : List ℕ) (at : ℕ) → at < length s →
    starts_from (suc n) s at ≡ at ∷ starts_from n s (at + length_of (get_or s at 0))
unfolding starts_from
starts_more n s at h = rw (lt-leb _ _ h)

-- or none, past the last byte.
pub starts_end : (n : ℕ) (s : List ℕ) (at : ℕ) → length s ≤ at → starts_from n s at ≡ []
unfolding starts_from
starts_end zero s at h = refl
starts_end (suc n) s at h = rw (le-leb _ _ h)

-- They are no more than there is room for.
pub starts_few : (n : ℕ) (s : List ℕ) (at : ℕ) → length (starts_from n s at) ≤ n
unfolding starts_from
starts_few zero s at = omega arith
starts_few (suc n) s at =
    cond_both (leb (length s) at) _ _ (λ (l : List ℕ). length l ≤ suc n) (λ past. omega arith)
    (λ here. omega (arith, starts_few n s (at + length_of (get_or s at 0))))

-- A rule has no more records than the limit,
pub records_few : (s : List ℕ) → length (records_of s) ≤ records
records_few s = simp length-map (starts_few records s 0)

-- Two arrays with the same places in front are equal.
pub front_unique : {places a b : List ℕ} → Front places a → Front places b → a ≡ b
front_unique {places} {a} {b} f g = ext_get_or 0 a b (f.long ∙ sym g.long) (λ k h. f.each k ∙ sym (g.each k))

zeros : (n k : ℕ) → Dec (k < n) → ◌≡◌ {A = ℕ} (get_or (replicate n 0) k 0) 0
zeros n k (yes below) = get_or-replicate n k 0 0 below
zeros n k (no past) = get_or-eq_default (replicate n 0) 0 (simp length-replicate (omega arith))

-- An array of zeros has no place in front.
pub front_none : Front [] (replicate records 0)
front_none = record { long = length-replicate records 0; each = λ k. zeros records k (dec_lt k records) }

-- The place of the next record goes into the array behind those before it.
pub front_more : {starts later : List ℕ} {at : ℕ} (places : List ℕ) (count : ℕ) → Front (take count places) starts →
    count < records → drop count places ≡ at ∷ later → Front (take (count + 1) places) (set starts count at)
front_more {starts} {later} {at} places count f room e =
    record { long = simp length-set f.long; each = λ k. go k (ℕ_discrete k count) (dec_lt k count) }
  where
    behind : (n k : ℕ) → n ≤ k → get_or (take n places) k 0 ≡ 0
    behind n k h =
        let past : length (take n places) ≤ k = simp length-take (omega arith) in get_or-eq_default (take n places) 0 past

    here : get_or places count 0 ≡ at
    here = rw (← add-zero count, ← get_or-drop count places 0 0, e)

    go : (k : ℕ) → Dec (k ≡ count) → Dec (k < count) → get_or (set starts count at) k 0 ≡ get_or (take (count + 1) places) k 0
    go k (yes same) d =
        let fits : count < length starts = rw f.long room in
        rw (same, get_or-set_same starts count at 0 fits, get_or-take (count + 1) places count 0 (omega arith)) (sym here)
    go k (no other) (yes below) =
        get_or-set_other starts count k at 0 other ∙
        (f.each k ∙ (get_or-take count places k 0 below ∙ sym (get_or-take (count + 1) places k 0 (omega arith))))
    go k (no other) (no past) =
        get_or-set_other starts count k at 0 other ∙
        (f.each k ∙ (behind count k (omega arith) ∙ sym (behind (count + 1) k (omega arith))))

-- An array with the places of a rule in front leads to each of its records.
pub front_record : (s : List ℕ) {starts : List ℕ} → Front (starts_of s) starts → (k : ℕ) → k < length (records_of s) →
    get_or (records_of s) k starring ≡ rec_at s (get_or starts k 0)
front_record s front k h = rw (front.each k) (get_or-map (rec_at s) (starts_of s) k 0 starring (simp length-map at h))
