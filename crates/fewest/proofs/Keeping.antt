-- The laws of kept threads: nothing was stored, one store after another, a store behind them, and that they stand as they stood.
use Prim.Native.Nat.{ℕ, ◌+◌, ◌<◌, ◌≤◌}
use mathlib.Core.Path.{◌≡◌, refl, sym, ◌∙◌}
use mathlib.Core.List.{List}
use native.Mathlib.Omega.{arith}
use native.Mathlib.Decide.{dec_lt}
use lib.ListN.{length, get_or, set, length-set, get_or-eq_default}
use lib.Seq.{get_or-set_other}
use Rattle.records.specs.Sites.{Accepted}
use Rattle.fewest.specs.Cells.{cells}
use Rattle.fewest.specs.Threads.{subject_first, predicate_first, object_first, predicate_next, object_next, free, Threads}
use Rattle.fewest.specs.Kept.{Below, Kept}
use Rattle.fewest.proofs.Decoded.{cells_at, cells_long}

pub kept_none : {X : List ℕ} → Kept X X
kept_none = record { long = refl; same = λ i h. refl }

pub kept_then : {X Y Z : List ℕ} → Kept X Y → Kept Y Z → Kept X Z
kept_then p q = record { long = q.long ∙ p.long; same = λ i h. q.same i h ∙ p.same i h }

-- Where no byte before the free cells was changed, no cell there was.
pub kept_bytes : {X Y : List ℕ} → length Y ≡ length X → ((i : ℕ) → i < free + free → get_or Y i 0 ≡ get_or X i 0) → Kept X Y
kept_bytes {X} {Y} long bytes = record { long = long; same = same }
  where
    -- past the end a cell is none of either
    none : (Z : List ℕ) (j : ℕ) → length Z ≤ j + j + 1 → get_or (cells Z) j 0 ≡ 0
    none Z j h = get_or-eq_default (cells Z) 0 (rw (cells_long Z) (omega arith))

    same : (j : ℕ) → j < free → get_or (cells Y) j 0 ≡ get_or (cells X) j 0
    same j h = elim (dec_lt (j + j + 1) (length X)) [
      | yes l ↦ rw (cells_at Y j (rw long l), cells_at X j l, bytes (j + j) (omega arith), bytes (j + j + 1) (omega arith)) refl
      | no l ↦ none Y j (rw long (omega arith)) ∙ sym (none X j (omega arith))
    ]

-- one byte of the free cells
pub kept_byte : (X : List ℕ) (i v : ℕ) → free + free ≤ i → Kept X (set X i v)
kept_byte X i v behind = kept_bytes (simp length-set) (λ j h. get_or-set_other X i j v 0 (λ e. omega arith))

-- a whole cell of them
pub kept_cell : {X Y : List ℕ} (i v : ℕ) → free ≤ i → length Y ≡ length X → cells Y ≡ set (cells X) i v → Kept X Y
kept_cell {X} i v behind long stored = record { long = long; same = λ j h. rw stored (get_or-set_other (cells X) i j v 0 (λ e. omega arith)) }

-- Threads stand where their cells are as they were.
pub threads_kept : {site X Y : List ℕ} {n : ℕ} → Accepted site n → Below X Y → Threads site n X → Threads site n Y
threads_kept good below threads =
    let few = good.few in
    record {
      subjects = λ t h. rw (below (subject_first + t) (omega arith)) (threads.subjects t h);
      predicates = record {
        first = λ t h. rw (below (predicate_first + t) (omega arith)) (threads.predicates.first t h);
        next = λ i l h. rw (below (predicate_next + i) (omega arith)) (threads.predicates.next i l h);
      };
      objects = record {
        first = λ t h. rw (below (object_first + t) (omega arith)) (threads.objects.first t h);
        next = λ i l h. rw (below (object_next + i) (omega arith)) (threads.objects.next i l h);
      };
    }
