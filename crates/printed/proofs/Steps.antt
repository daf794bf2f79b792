-- The lines of the steps that a room holds: one more step, and a path that fills the front of the room.
use Prim.Native.Nat.{ℕ, zero, suc, ◌+◌, ◌*◌, ◌<◌}
use mathlib.Core.Path.{◌≡◌, refl, sym, ap, ◌∙◌}
use mathlib.Core.List.{List, [], ◌∷◌, ◌++◌, append_assoc, append-nil}
use native.Mathlib.Nat.{add-zero}
use native.Mathlib.Omega.{arith}
use lib.ListN.{length, get_or, take, drop, length-take}
use lib.Seq.{get_or-take, get_or-drop, drop-drop}
use Rattle.std.specs.Simd.{first_chunks}
use Rattle.meaning.specs.Path.{Path}
use Rattle.calls.specs.Tables.{written}
use Rattle.printed.specs.Lines.{step_line, step_lines, path_lines}

-- the line of step number i
abbrev pub line_of : List ℕ → ℕ → List ℕ
line_of l i = step_line (get_or l (3 * i) 0) (get_or l (3 * i + 1) 0) (get_or l (3 * i + 2) 0)

-- of what is left after the first step, step i is step i + 1
line_drop : (l : List ℕ) (i : ℕ) → line_of (drop 3 l) i ≡ line_of l (suc i)
line_drop l i =
    let here : 3 + 3 * i ≡ 3 * suc i = omega arith in
    let next : 3 + (3 * i + 1) ≡ 3 * suc i + 1 = omega arith in
    let last : 3 + (3 * i + 2) ≡ 3 * suc i + 2 = omega arith in
    rw (get_or-drop 3 l (3 * i) 0, get_or-drop 3 l (3 * i + 1) 0, get_or-drop 3 l (3 * i + 2) 0, here, next, last)

-- a room's chunks of three: how many, and the one at a place
chunks_long : (k : ℕ) (l : List ℕ) → length (first_chunks 3 k l) ≡ k
chunks_long zero l = refl
chunks_long (suc k) l = ap suc (chunks_long k (drop 3 l))

chunk_at : (k : ℕ) (l : List ℕ) (i : ℕ) → i < k → get_or (first_chunks 3 k l) i [] ≡ take 3 (drop (3 * i) l)
chunk_at zero l i h = absurd (omega arith)
chunk_at (suc k) l zero h = refl
chunk_at (suc k) l (suc i) h =
    let on : 3 + 3 * i ≡ 3 * suc i = omega arith in
    chunk_at k (drop 3 l) i (omega arith) ∙ rw (drop-drop, on)

-- the line of step number i, as it is read from the first n chunks
pub line_at : (n k : ℕ) (l : List ℕ) (each : List (List ℕ)) → each ≡ first_chunks 3 k l → (i : ℕ) → i < length (take n each) →
    let step = get_or (take n each) i [] in step_line (get_or step 0 0) (get_or step 1 0) (get_or step 2 0) ≡ line_of l i
line_at n k l each is i h =
    let many : length each ≡ k = ap length is ∙ chunks_long k l in
    let here : get_or (take n each) i [] ≡ take 3 (drop (3 * i) l) =
    get_or-take n each i [] (omega (arith, length-take n each)) ∙ ap (λ xs. get_or xs i []) is ∙ chunk_at k l i (omega (arith, length-take n each)) in
    let at : (j : ℕ) → j < 3 → get_or (take 3 (drop (3 * i) l)) j 0 ≡ get_or l (3 * i + j) 0 =
    λ j h. get_or-take 3 (drop (3 * i) l) j 0 h ∙ get_or-drop (3 * i) l j 0 in
    rw (here, at 0 (omega arith), at 1 (omega arith), at 2 (omega arith), add-zero)

-- No step, no line; one more step, one more line.
pub lines_none : (l : List ℕ) → step_lines 0 l ≡ []
unfolding step_lines
lines_none l = refl

pub lines_more : (n : ℕ) (l : List ℕ) → step_lines (suc n) l ≡ step_lines n l ++ line_of l n
unfolding step_lines
lines_more zero l = append-nil _
lines_more (suc n) l =
    ap (λ t. line_of l 0 ++ t) (lines_more n (drop 3 l) ∙ ap (λ t. step_lines n (drop 3 l) ++ t) (line_drop l n)) ∙
    sym (append_assoc (line_of l 0) (step_lines n (drop 3 l)) (line_of l (suc n)))

-- A path in front of a room has its lines there.
pub lines_path : (p : Path) (l : List ℕ) → step_lines (length p) (written p ++ l) ≡ path_lines p
unfolding step_lines path_lines
lines_path [] l = refl
lines_path (x ∷ p) l = ap (λ t. step_line x.by x.over x.to ++ t) (lines_path p l)
