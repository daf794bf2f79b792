-- Justified and followed makes exact: a byte table whose marks are all asked, and in which what a mark asks is
-- marked, marks just the questions; and its marked ends are just the ends.
use Prim.Native.Nat.{ℕ, ◌<◌}
use mathlib.Core.Path.{◌≡◌, refl, sym, subst}
use mathlib.Core.Logic.{inl, inr, ◌↔◌}
use Rattle.meaning.specs.Limits.{terms}
use Rattle.meaning.specs.Site.{Site, Within}
use Rattle.meaning.specs.Expression.{Expr, step, tested, sequence, choice, star, last, Context, whole, test, first_of, second_of, one_of, other_of, round_of, plug}
use Rattle.meaning.specs.Relation.{Plus, once, then, Rel}
use Rattle.meaning.specs.Left.{Table}
use Rattle.meaning.specs.Question.{Question, question, Asks}
use Rattle.meaning.specs.Marks.{Follows, Justified, Arrived, Followed}
use Rattle.meaning.proofs.Moves.{move_passes, related_reaches, rounds_reach, among}

module _ {s : Site} {z : ℕ} {rule : Expr} {m : Table} {ends : ℕ → ℕ} (ok : Within s) (f : Followed s z rule m ends) where
  stay : (e : Expr) {t u : ℕ} → t < terms → Rel s e t u → u < terms
  stay e b v = among ok b (related_reaches e v)

  -- where a marked operand of a star leads by rounds, it is marked, and what follows the star
  rounds_follow : (r : ℕ) (a : Expr) (K : Context) →
      ((t u : ℕ) → t < terms → m (last a) t ≡ 1 → Rel s a t u → (m (last a) u ≡ 1) × Follows m ends (star r a) K u) →
      {t u : ℕ} → t < terms → m (last a) t ≡ 1 → Plus (Rel s a) t u → (m (last a) u ≡ 1) × Follows m ends (star r a) K u
  rounds_follow r a K g {t} {u} b h (once v) = g t u b h v
  rounds_follow r a K g {t} b h (then {y = i} v p) = rounds_follow r a K g (stay a b v) (g t i b h v).0 p

  -- where a marked subexpression leads, what follows it is marked
  pub follows : (e : Expr) (K : Context) → plug e K ≡ rule → (t u : ℕ) → t < terms → m (last e) t ≡ 1 → Rel s e t u → Follows m ends e K u
  follows (step r a l) K p t u b h (k, i, v) = f.by_step r a l K p k t i u b h v
  follows (tested r a x) K p t u b h (k, i, v, w) = f.by_test r a x K p k t i u b h v w
  follows (sequence r a c) K p t u b h (i, v, w) =
      follows c (second_of r a K) p i u (stay a b v) (follows a (first_of r c K) p t i b (f.sequence_in r a c K p t b h) v) w
  follows (choice r a c) K p t u b h (inl v) = follows a (one_of r c K) p t u b (f.one_in r a c K p t b h) v
  follows (choice r a c) K p t u b h (inr v) = follows c (other_of r a K) p t u b (f.other_in r a c K p t b h) v
  follows (star r a) K p t u b h (inl (v, e)) = subst (Follows m ends (star r a) K) e (f.round_empty r a K p t b h v)
  follows (star r a) K p t u b h (inr v) =
      (rounds_follow r a K (λ i j. follows a (round_of r K) p i j) b (f.round_in r a K p t b h) v).1

  itself : (q : Question) (r t : ℕ) → m r t ≡ 1 → q ≡ question r t → m q.of q.at ≡ 1
  itself q r t h e = subst (λ (x : Question). m x.of x.at ≡ 1) (sym e) h

  -- what a marked subexpression asks is marked
  pub asks_marked : (q : Question) (e : Expr) (K : Context) → plug e K ≡ rule → (t : ℕ) → t < terms → m (last e) t ≡ 1 → Asks s e t q → m q.of q.at ≡ 1
  asks_marked q (step r a l) K p t b h w = itself q r t h w
  asks_marked q (tested r a x) K p t b h (inl w) = itself q r t h w
  asks_marked q (tested r a x) K p t b h (inr (k, i, u, v, w)) =
      asks_marked q x (test r a K) p i (among ok b (move_passes v)) (f.test_in r a x K p k t i u b h v) w
  asks_marked q (sequence r a c) K p t b h (inl w) = itself q r t h w
  asks_marked q (sequence r a c) K p t b h (inr (inl w)) = asks_marked q a (first_of r c K) p t b (f.sequence_in r a c K p t b h) w
  asks_marked q (sequence r a c) K p t b h (inr (inr (i, v, w))) =
      asks_marked q c (second_of r a K) p i (stay a b v) (follows a (first_of r c K) p t i b (f.sequence_in r a c K p t b h) v) w
  asks_marked q (choice r a c) K p t b h (inl w) = itself q r t h w
  asks_marked q (choice r a c) K p t b h (inr (inl w)) = asks_marked q a (one_of r c K) p t b (f.one_in r a c K p t b h) w
  asks_marked q (choice r a c) K p t b h (inr (inr w)) = asks_marked q c (other_of r a K) p t b (f.other_in r a c K p t b h) w
  asks_marked q (star r a) K p t b h (inl w) = itself q r t h w
  asks_marked q (star r a) K p t b h (inr (inl w)) = asks_marked q a (round_of r K) p t b (f.round_in r a K p t b h) w
  asks_marked q (star r a) K p t b h (inr (inr (i, v, w))) =
      asks_marked q a (round_of r K) p i (among ok b (rounds_reach (λ x y. related_reaches a) v))
      (rounds_follow r a K (λ i j. follows a (round_of r K) p i j) b (f.round_in r a K p t b h) v).0 w

  -- a table that is justified and followed marks just the questions
  pub marks_exact : Justified s z rule m → z < terms → (r t : ℕ) → t < terms → (m r t ≡ 1) ↔ Asks s rule z (question r t)
  marks_exact j b r t c = (j.asked r t c, asks_marked (question r t) rule whole refl z b f.begun)

  -- and its marked ends are just the terms that the rule relates the start to
  pub ends_exact : Arrived s z rule ends → z < terms → (u : ℕ) → u < terms → (ends u ≡ 1) ↔ Rel s rule z u
  ends_exact j b u c = (j.related u c, follows rule whole refl z u b f.begun)
