-- A triple as an axis of the code takes it: it is the one move of the meaning that this triple makes for this axis,
-- and its terms are terms.
use Prim.Native.Nat.{ℕ, ◌<◌}
use mathlib.Core.Path.{◌≡◌, refl}
use mathlib.Core.List.{List}
use native.Mathlib.Omega.{arith}
use lib.ListN.{length}
use Rattle.meaning.specs.Limits.{terms}
use Rattle.meaning.specs.Site as meant
use Rattle.meaning.specs.Site.{Site, triple}
use Rattle.meaning.specs.Move.{Direction, next, edge, node, start, middle, finish, Axis, ahead, inverse, any, Passes, Move, going, coming}
use Rattle.records.specs.declared.Axis.{Axis as CodeAxis}
use Rattle.records.specs.declared.Axis.TheVariants as code
use Rattle.records.specs.Sites.{triple_width, subject_part, predicate_part, object_part, term_at, site_of, Accepted}
use Rattle.records.specs.Rules.{axis_of}
use Rattle.records.proofs.Sites.{length-site_of}
use Rattle.records.proofs.Parts.{by_parts, triple_terms, triple_parts}
use Rattle.fewest.specs.declared.look.Moved.{Moved}
use Rattle.fewest.specs.declared.look.Parts.{Parts}
use Rattle.fewest.specs.Work.{parts_of, Axial, moved_at}

-- triple number k moves so along the axis, and not otherwise
pub record Taken (s : Site) (k : ℕ) (a : Axis) (m : Moved) : Type 0 where
  pub moves : Move s a any k m.from m.middle m.to
  pub alone : (t p u : ℕ) → Move s a any k t p u → (t ≡ m.from) × (p ≡ m.middle) × (u ≡ m.to)

-- a triple as a direction takes it, and as its inverse does
abbrev forth : Direction → meant.Triple → Moved
forth d x = record { from = start d x; middle = middle d x; to = finish d x }

abbrev back : Direction → meant.Triple → Moved
back d x = record { from = finish d x; middle = middle d x; to = start d x }

goes : {s : Site} {d : Direction} {k t m u : ℕ} → Move s (ahead d) any k t m u → Passes s d k t m u
goes (going x _) = x

comes : {s : Site} {d : Direction} {k t m u : ℕ} → Move s (inverse d) any k t m u → Passes s d k u m t
comes (coming x _) = x

-- triple number k of a site, whose terms stand at the parts of record number k
module _ (b : List ℕ) (k : ℕ) (s : Site) (h : k < length s) (stands : triple s k ≡ by_parts b k) where
  taken_ahead : (d : Direction) → Taken s k (ahead d) (forth d (by_parts b k))
  taken_ahead d = rw (← stands) (record {
    moves = going (record { below = h; starts = refl; passes = refl; ends = refl }) tt;
    alone = λ t p u move. let x = goes move in (x.starts, x.passes, x.ends);
  })

  taken_inverse : (d : Direction) → Taken s k (inverse d) (back d (by_parts b k))
  taken_inverse d = rw (← stands) (record {
    moves = coming (record { below = h; starts = refl; passes = refl; ends = refl }) tt;
    alone = λ t p u move. let x = comes move in (x.ends, x.passes, x.starts);
  })

  taken_by : (a : CodeAxis) → Taken s k (axis_of a) (moved_at b k (parts_of a))
  unfolding moved_at
  taken_by code.Next = taken_ahead next
  taken_by code.NextInverse = taken_inverse next
  taken_by code.Edge = taken_ahead edge
  taken_by code.EdgeInverse = taken_inverse edge
  taken_by code.Node = taken_ahead node
  taken_by code.NodeInverse = taken_inverse node

-- what holds of each part of a record, of the three that an axis takes
pub record Each (P : ℕ → Type 0) (p : Parts) : Type 0 where
  pub from : P p.from
  pub middle : P p.middle
  pub to : P p.to

each_part : (P : ℕ → Type 0) → P subject_part → P predicate_part → P object_part → (a : CodeAxis) → Each P (parts_of a)
each_part P s p o code.Next = record { from = s; middle = p; to = o }
each_part P s p o code.NextInverse = record { from = o; middle = p; to = s }
each_part P s p o code.Edge = record { from = s; middle = o; to = p }
each_part P s p o code.EdgeInverse = record { from = p; middle = o; to = s }
each_part P s p o code.Node = record { from = p; middle = s; to = o }
each_part P s p o code.NodeInverse = record { from = o; middle = s; to = p }

-- They stand in the record.
pub axial_inside : {p : Parts} → Axial p → Each (λ i. i < triple_width) p
axial_inside (a, e) = rw e (each_part (λ i. i < triple_width) (omega arith) (omega arith) (omega arith) a)

-- each of the three is a term
pub record Terms (m : Moved) : Type 0 where
  pub from : m.from < terms
  pub middle : m.middle < terms
  pub to : m.to < terms

module _ {b : List ℕ} {k n : ℕ} {p : Parts} {m : Moved} (by : m ≡ moved_at b k p) (good : Accepted b n) (here : k < n) where
  -- What the code makes of triple number k is its one move.
  pub moved_taken : (a : CodeAxis) → p ≡ parts_of a → Taken (site_of b n) k (axis_of a) m
  moved_taken a e = rw (by, e) (taken_by b k (site_of b n) (rw (length-site_of b n) here) (triple_parts good here) a)

  -- Its terms are terms.
  pub moved_terms : Axial p → Terms m
  unfolding moved_at
  moved_terms (a, e) =
      let are = rw (triple_parts good here) at (triple_terms good here) in
      let all = each_part (λ i. term_at b k i < terms) are.subject are.predicate are.object a in
      rw (by, e) (record { from = all.from; middle = all.middle; to = all.to })
