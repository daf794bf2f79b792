-- The moves of a site, computed: a list over its triples, read off the definitions of document 01.
-- Each test and each list comes with the law that it is exactly the notion of specs/.
use Prim.Native.Nat.{ℕ, ◌<◌}
use mathlib.Core.Path.{◌≡◌, refl, sym, subst}
use mathlib.Core.Bool.{Bool, true, ◌&&◌, ◌||◌}
use mathlib.Core.Logic.Iff
use mathlib.Core.Logic.{◌⊎◌, ◌↔◌}
use mathlib.Core.List.{List, flat_map}
use lib.ListN.{length}
use lib.Dec.{T, eqb}
use Rattle.meaning.specs.Limits.{none}
use Rattle.meaning.specs.Site.{Triple, Site, triple, Voc}
use Rattle.meaning.specs.Move.{Axis, self, ahead, inverse, start, middle, finish, Label, any, only, Allows, Rests, Move, Direction, Stays, Passes, staying, going, coming}
use Rattle.meaning.proofs.Listed.{◌∈◌, both_right, either_right, eqb_right, below, below_less, less_below, given, in_given, in_flat_map, of_flat_map, some, some_right}

-- the term stands as subject or object of this triple
unfoldable pub stands_in : Triple → ℕ → Bool
stands_in x t = eqb t x.subject || eqb t x.object

stands_in_right : (x : Triple) (t : ℕ) → T (stands_in x t) ↔ ((t ≡ x.subject) ⊎ (t ≡ x.object))
unfolding stands_in
stands_in_right x t = either_right (eqb t x.subject) (eqb t x.object) (eqb_right t x.subject) (eqb_right t x.object)

-- the term is in the vocabulary
unfoldable pub stands : Site → ℕ → Bool
stands s t = some (λ k. stands_in (triple s k) t) (below (length s))

pub stands_right : (s : Site) (t : ℕ) → T (stands s t) ↔ Voc s t
unfolding stands
stands_right s t = (
  λ h.
      let (k, m, i) = (some_right (λ k. stands_in (triple s k) t) (below (length s))).0 h in
      record { number = k; below = below_less (length s) m; stands = (stands_in_right (triple s k) t).0 i },
  λ v.
      (some_right (λ k. stands_in (triple s k) t) (below (length s))).1
      (v.number, less_below (length s) v.below, (stands_in_right (triple s v.number) t).1 v.stands),
)

unfoldable pub allows : Label → ℕ → Bool
allows any m = true
allows (only n) m = eqb m n

pub allows_right : (l : Label) (m : ℕ) → T (allows l m) ↔ Allows l m
unfolding allows
allows_right any m = Iff.rfl
allows_right (only n) m = eqb_right m n

unfoldable pub rests : Site → Label → ℕ → Bool
rests s any t = stands s t
rests s (only n) t = eqb t n

pub rests_right : (s : Site) (l : Label) (t : ℕ) → T (rests s l t) ↔ Rests s l t
unfolding rests
rests_right s any t = stands_right s t
rests_right s (only n) t = eqb_right t n

-- a move from a given term: the triple number, the middle, the term reached
pub record Moved : Type 0 where
  pub over : ℕ
  pub past : ℕ
  pub to : ℕ

abbrev pub moved : ℕ → ℕ → ℕ → Moved
moved k m u = record { over = k; past = m; to = u }

-- The moves over triples, from t as one term of the triple past another to a third. Both ways of an axis are such.
module _ (s : Site) (from mid to : Triple → ℕ) (l : Label) (t : ℕ) where
  unfoldable pub passable : ℕ → Bool
  passable k = eqb t (from (triple s k)) && allows l (mid (triple s k))

  unfoldable pub passing : List Moved
  unfolding passable
  passing = flat_map (λ k. given (passable k) (moved k (mid (triple s k)) (to (triple s k)))) (below (length s))

  abbrev Over : Moved → Type 0
  Over h =
      (h.over < length s) × (t ≡ from (triple s h.over)) × (h.past ≡ mid (triple s h.over)) × (h.to ≡ to (triple s h.over)) ×
      Allows l h.past

  passable_right : (k : ℕ) → T (passable k) ↔ ((t ≡ from (triple s k)) × Allows l (mid (triple s k)))
  unfolding passable
  passable_right k =
      both_right (eqb t (from (triple s k))) (allows l (mid (triple s k))) (eqb_right t (from (triple s k))) (allows_right l (mid (triple s k)))

  passing_right : (h : Moved) → (h ∈ passing) ↔ Over h
  unfolding passing
  passing_right h = (
    λ i.
        let (k, b, g) = of_flat_map _ (below (length s)) i in
        let (p, e) = (in_given (passable k)).0 g in
        let (f, a) = (passable_right k).0 p in
        subst Over (sym e) (below_less (length s) b, f, refl, refl, a),
    λ (b, f, e, e', a).
        in_flat_map _ (less_below (length s) b)
        ((in_given (passable h.over)).1 ((passable_right h.over).1 (f, subst (Allows l) e a), λ i. moved h.over (e i) (e' i))),
  )

-- the moves by an axis from a term
unfoldable pub moves : Site → Axis → Label → ℕ → List Moved
moves s self l t = given (rests s l t) (moved none t t)
moves s (ahead d) l t = passing s (start d) (middle d) (finish d) l t
moves s (inverse d) l t = passing s (finish d) (middle d) (start d) l t

-- what a move is, by its axis
module _ {s : Site} {l : Label} {k t m u : ℕ} where
  stayed : Move s self l k t m u → Stays s l k t m u
  stayed (staying v) = v

  gone : {d : Direction} → Move s (ahead d) l k t m u → Passes s d k t m u × Allows l m
  gone (going v a) = (v, a)

  come : {d : Direction} → Move s (inverse d) l k t m u → Passes s d k u m t × Allows l m
  come (coming v a) = (v, a)

-- the list holds exactly the moves
pub moves_right : (s : Site) (a : Axis) (l : Label) (t : ℕ) (h : Moved) → (h ∈ moves s a l t) ↔ Move s a l h.over t h.past h.to
unfolding moves
moves_right s self l t h = (
  λ i.
      let (p, e) = (in_given (rests s l t)).0 i in
      staying (record { number = λ j. (e j).over; rests = (rests_right s l t).0 p; passes = λ j. (e j).past; ends = λ j. (e j).to }),
  λ v.
      let m = stayed v in
      (in_given (rests s l t)).1 ((rests_right s l t).1 m.rests, λ j. moved (m.number j) (m.passes j) (m.ends j)),
)
moves_right s (ahead d) l t h =
    let it = passing_right s (start d) (middle d) (finish d) l t h in (
      λ i. let (b, f, e, e', a) = it.0 i in going (record { below = b; starts = f; passes = e; ends = e' }) a,
      λ v. let (p, a) = gone v in it.1 (p.below, p.starts, p.passes, p.ends, a),
    )
moves_right s (inverse d) l t h =
    let it = passing_right s (finish d) (middle d) (start d) l t h in (
      λ i. let (b, f, e, e', a) = it.0 i in coming (record { below = b; starts = e'; passes = e; ends = f }) a,
      λ v. let (p, a) = come v in it.1 (p.below, p.ends, p.passes, p.starts, a),
    )
