-- Where a move leads: from a term of the site to a term of the site, or nothing else.
-- The only laws that look into a move's triple.
use Prim.Native.Nat.{ℕ, ◌<◌}
use mathlib.Core.Path.{◌≡◌, sym, subst, ◌∙◌}
use mathlib.Core.Logic.{◌⊎◌, inl, inr}
use Rattle.meaning.specs.Limits.{terms}
use Rattle.meaning.specs.Site.{Site, Mentioned, Within}
use Rattle.meaning.specs.Expression.{Expr, step, tested, sequence, choice, star}
use Rattle.meaning.specs.Relation.{Plus, once, then, Rel}
use Rattle.meaning.specs.Move.{Direction, next, edge, node, Axis, Label, Move, staying, going, coming, Passes}

module _ {s : Site} {k t m u : ℕ} where
  start_mentioned : (d : Direction) → Passes s d k t m u → Mentioned s t
  start_mentioned next p = record { number = k; below = p.below; stands = inl p.starts }
  start_mentioned edge p = record { number = k; below = p.below; stands = inl p.starts }
  start_mentioned node p = record { number = k; below = p.below; stands = inr (inl p.starts) }

  middle_mentioned : (d : Direction) → Passes s d k t m u → Mentioned s m
  middle_mentioned next p = record { number = k; below = p.below; stands = inr (inl p.passes) }
  middle_mentioned edge p = record { number = k; below = p.below; stands = inr (inr p.passes) }
  middle_mentioned node p = record { number = k; below = p.below; stands = inl p.passes }

  finish_mentioned : (d : Direction) → Passes s d k t m u → Mentioned s u
  finish_mentioned next p = record { number = k; below = p.below; stands = inr (inr p.ends) }
  finish_mentioned edge p = record { number = k; below = p.below; stands = inr (inl p.ends) }
  finish_mentioned node p = record { number = k; below = p.below; stands = inr (inr p.ends) }

-- a move by a triple from a term lands at one term
pub move_lands : {s : Site} {a : Axis} {l : Label} {k t m n u v : ℕ} → Move s a l k t m u → Move s a l k t n v → u ≡ v
move_lands (staying x) (staying y) = x.ends ∙ sym y.ends
move_lands (going x h) (going y i) = x.ends ∙ sym y.ends
move_lands (coming x h) (coming y i) = x.starts ∙ sym y.starts

-- the term that a move reaches is where it began, or a term of the site
pub move_reaches : {s : Site} {a : Axis} {l : Label} {k t m u : ℕ} → Move s a l k t m u → (u ≡ t) ⊎ Mentioned s u
move_reaches (staying v) = inl v.ends
move_reaches (going {d = d} v h) = inr (finish_mentioned d v)
move_reaches (coming {d = d} v h) = inr (start_mentioned d v)

-- the middle of a move is where it began, or a term of the site
pub move_passes : {s : Site} {a : Axis} {l : Label} {k t m u : ℕ} → Move s a l k t m u → (m ≡ t) ⊎ Mentioned s m
move_passes (staying v) = inl v.passes
move_passes (going {d = d} v h) = inr (middle_mentioned d v)
move_passes (coming {d = d} v h) = inr (middle_mentioned d v)

-- so a move from one of the terms leads to one of the terms, past one of the terms
pub among : {s : Site} {t u : ℕ} → Within s → t < terms → (u ≡ t) ⊎ Mentioned s u → u < terms
among w h (inl e) = subst (λ v. v < terms) (sym e) h
among {u = u} w h (inr v) = w u v

-- and so do two, one after the other
pub on : {s : Site} {t v u : ℕ} → (v ≡ t) ⊎ Mentioned s v → (u ≡ v) ⊎ Mentioned s u → (u ≡ t) ⊎ Mentioned s u
on (inl d) (inl e) = inl (e ∙ d)
on {s} {u = u} (inr w) (inl e) = inr (subst (Mentioned s) (sym e) w)
on (inl d) (inr w) = inr w
on (inr v) (inr w) = inr w

-- what holds of one round from each term holds of one or more
pub rounds_reach : {s : Site} {R : ℕ → ℕ → Type 0} {t u : ℕ} → ((x y : ℕ) → R x y → (y ≡ x) ⊎ Mentioned s y) → Plus R t u → (u ≡ t) ⊎ Mentioned s u
rounds_reach f (once r) = f _ _ r
rounds_reach f (then r p) = on (f _ _ r) (rounds_reach f p)

-- an expression relates a term to itself, or to a term of the site
pub related_reaches : {s : Site} (e : Expr) {t u : ℕ} → Rel s e t u → (u ≡ t) ⊎ Mentioned s u
related_reaches (step r a l) v = move_reaches v.2
related_reaches (tested r a x) v = move_reaches v.2
related_reaches (sequence r a b) v = on (related_reaches a v.1) (related_reaches b v.2)
related_reaches (choice r a b) (inl v) = related_reaches a v
related_reaches (choice r a b) (inr v) = related_reaches b v
related_reaches (star r a) (inl v) = inl (sym v.1)
related_reaches (star r a) (inr v) = rounds_reach (λ x y w. related_reaches a w) v
