-- The front of a list is filled by numbers, a few more at a time, and so is the front of what is lent, in either form.
-- A path is written at three numbers a step.
use Prim.Native.Nat.{ℕ, zero, suc, ◌+◌, ◌*◌, ◌/◌, ◌%◌, ◌-◌, ◌≤◌}
use mathlib.Core.Path.{◌≡◌, refl, sym, ap, ◌∙◌}
use mathlib.Core.List.{List, [], ◌∷◌, ◌++◌}
use native.Mathlib.Numerals.{add-one, add-two}
use native.Mathlib.Omega.{arith}
use lib.ListN.{length, drop, length-append, length-drop}
use lib.Seq.{drop-nil, take-append_seam, drop-append-add, drop-drop, sets, sets-eq}
use Rattle.meaning.specs.Path.{Path, taken}
use Rattle.meaning.specs.Path as meant
use Rattle.records.specs.Bytes.{base}
use Rattle.fewest.specs.Pairs.{pairs}
use Rattle.path.specs.declared.Taken.{Taken}
use Rattle.calls.specs.Tables.{written}
use Rattle.calls.specs.Promise.{Form, as_words, as_bytes, numbers_of, spread, lent, length_in}
use Rattle.calls.specs.Written.{front, StepWritten}
use Rattle.calls.proofs.OneTable.{spread_pairs, Slice}

pub front_long : (vs l : List ℕ) → length vs ≤ length l → length (front vs l) ≡ length l
front_long vs l h = simp (length-append, length-drop) (omega arith)

-- Stores that begin where the front ends make the front longer,
pub front_more : (ws vs l : List ℕ) {i : ℕ} → length ws ≡ i → i + length vs ≤ length l → sets (front ws l) i vs ≡ front (ws ++ vs) l
front_more ws vs l {i} here h =
    let inside : i + length vs ≤ length (front ws l) = rw (front_long ws l (omega arith)) h in
    rw (sets-eq vs (front ws l) i inside, ← here, take-append_seam ws, drop-append-add ws, drop-drop, length-append ws vs)

-- one more step is written behind the others
pub written_more : (p : Path) (x : meant.Taken) → written (p ++ (x ∷ [])) ≡ written p ++ (x.by ∷ (x.over ∷ (x.to ∷ [])))
written_more [] x = refl
written_more (y ∷ p) x = ap (λ l. y.by ∷ (y.over ∷ (y.to ∷ l))) (written_more p x)

pub written_long : (p : Path) → length (written p) ≡ 3 * length p
written_long [] = refl
written_long (x ∷ p) = omega (arith, written_long p)

-- so one more step makes the front longer
pub front_step : (p : Path) (x : Taken) {i : ℕ} (l : List ℕ) {l' m : List ℕ} → length p ≡ i → 3 * i + 3 ≤ length l → l' ≡ front (written p) l →
    StepWritten i x l' m → m ≡ front (written (p ++ (taken x.by x.over x.to ∷ []))) l
front_step p x {i} l count roomy filled stored =
    let step = x.by ∷ (x.over ∷ (x.to ∷ [])) in
    rw (stored, filled, add-one, add-two, written_more) (front_more (written p) step l (omega (arith, written_long p)) roomy)

spread_append : (a b : List ℕ) → spread (a ++ b) ≡ spread a ++ spread b
unfolding spread
spread_append [] b = refl
spread_append (x ∷ a) b = ap (λ l. x / base ∷ (x % base ∷ l)) (spread_append a b)

spread_long : (a : List ℕ) → length (spread a) ≡ length a + length a
unfolding spread
spread_long [] = refl
spread_long (x ∷ a) = omega (arith, spread_long a)

spread_drop : (k : ℕ) (l : List ℕ) → spread (drop k l) ≡ drop (k + k) (spread l)
unfolding spread
spread_drop zero l = refl
spread_drop (suc k) [] = sym (drop-nil (suc k + suc k))
spread_drop (suc k) (x ∷ l) =
    let twice : suc k + suc k ≡ suc (suc (k + k)) = omega arith in
    rw twice (spread_drop k l)

spread_front : (ws l : List ℕ) → spread (front ws l) ≡ front (spread ws) (spread l)
spread_front ws l = rw (spread_append, spread_drop, spread_long)

length_in_mono : (f : Form) {m n : ℕ} → m ≤ n → length_in f m ≤ length_in f n
length_in_mono as_words h = h
length_in_mono as_bytes h = omega arith

-- A path is three numbers a step, as it is lent,
pub lent_long : (f : Form) (p : Path) → length (lent f (written p)) ≡ length_in f (3 * length p)
lent_long as_words p = written_long p
lent_long as_bytes p = omega (arith, spread_long (written p), written_long p)

-- and a room of as many numbers holds it.
pub lent_fits : (f : Form) (p : Path) (room : List ℕ) {m : ℕ} → length room ≡ length_in f m → 3 * length p ≤ m → length (lent f (written p)) ≤ length room
lent_fits f p room long enough = rw (lent_long f p, long) (length_in_mono f enough)

-- A slice of so many numbers has them,
pub numbers_long : (f : Form) (n : ℕ) (b : List ℕ) → length b ≡ length_in f n → length (numbers_of f b) ≡ n
unfolding pairs
numbers_long as_words n b long = long
numbers_long as_bytes n [] long = omega arith
numbers_long as_bytes n (h ∷ []) long = absurd (omega arith)
numbers_long as_bytes n (h ∷ (l ∷ b)) long = omega (arith, numbers_long as_bytes (n - 1) b (omega arith))

-- and what fills the front of the numbers fills the front of what is lent.
pub lent_front : (f : Form) (n : ℕ) (ws b c : List ℕ) → length b ≡ length_in f n → length c ≡ length_in f n → Slice f b → Slice f c →
    numbers_of f c ≡ front ws (numbers_of f b) → c ≡ front (lent f ws) b
lent_front as_words n ws b c long as_long small as-small e = e
lent_front as_bytes n ws b c long as_long small as-small e =
    sym (spread_pairs n c as_long as-small) ∙ ap spread e ∙ spread_front ws (pairs b) ∙ ap (front (spread ws)) (spread_pairs n b long small)
