-- The work figure never exceeds the ceiling (document 01, "The work figure" and "The query program").
-- Every question is of a record of the rule, and at the start or at a term of the site.
use Prim.Native.Nat.{ℕ, ◌+◌, ◌*◌, ◌<◌, ◌≤◌}
use mathlib.Core.Path.{◌≡◌, ap}
use mathlib.Core.Logic.{◌⊎◌, inl, inr}
use native.Mathlib.Nat.{le_trans, mul-le-mul_left}
use native.Mathlib.Omega.{arith}
use Rattle.meaning.specs.Site.{Site, Mentioned}
use Rattle.meaning.specs.Expression.{Expr, step, tested, sequence, choice, star, size, Numbered}
use Rattle.meaning.specs.Question.{Question, Asks, Count, Figure}
use Rattle.meaning.proofs.Moves.{move_passes, related_reaches, rounds_reach, on}
use Rattle.meaning.proofs.Counting.{count_unique, count_below, count_again, count_with, count_rows, total_same}

-- t, or a term of the site
abbrev pub Around : Site → ℕ → ℕ → Type 0
Around s t u = (u ≡ t) ⊎ Mentioned s u

module _ (s : Site) (q : Question) where
  -- Every question asked is of one of the rule's records.
  pub asks_record : (e : Expr) (n t : ℕ) → Numbered n e → Asks s e t q → (n ≤ q.of) × (q.of < n + size e)
  asks_record (step r a l) n t h e = let f = ap (λ (x : Question). x.of) e in omega arith
  asks_record (tested r a x) n t h (inl e) = let f = ap (λ (x : Question). x.of) e in omega arith
  asks_record (tested r a x) n t h (inr (k, m, u, v, i)) = let b = asks_record x n m h.0 i in omega arith
  asks_record (sequence r a b) n t h (inl e) = let f = ap (λ (x : Question). x.of) e in omega arith
  asks_record (sequence r a b) n t h (inr (inl i)) = let c = asks_record a n t h.0 i in omega arith
  asks_record (sequence r a b) n t h (inr (inr (m, v, i))) = let c = asks_record b _ m h.1 i in omega arith
  asks_record (choice r a b) n t h (inl e) = let f = ap (λ (x : Question). x.of) e in omega arith
  asks_record (choice r a b) n t h (inr (inl i)) = let c = asks_record a n t h.0 i in omega arith
  asks_record (choice r a b) n t h (inr (inr i)) = let c = asks_record b _ t h.1 i in omega arith
  asks_record (star r a) n t h (inl e) = let f = ap (λ (x : Question). x.of) e in omega arith
  asks_record (star r a) n t h (inr (inl i)) = let c = asks_record a n t h.0 i in omega arith
  asks_record (star r a) n t h (inr (inr (m, v, i))) = let c = asks_record a n m h.0 i in omega arith

  -- Every question asked is at the start or at a term of the site.
  pub asks_term : (e : Expr) (t : ℕ) → Asks s e t q → Around s t q.at
  asks_term (step r a l) t e = inl (ap (λ (x : Question). x.at) e)
  asks_term (tested r a x) t (inl e) = inl (ap (λ (x : Question). x.at) e)
  asks_term (tested r a x) t (inr (k, m, u, v, i)) = on (move_passes v) (asks_term x m i)
  asks_term (sequence r a b) t (inl e) = inl (ap (λ (x : Question). x.at) e)
  asks_term (sequence r a b) t (inr (inl i)) = asks_term a t i
  asks_term (sequence r a b) t (inr (inr (m, h, i))) = on (related_reaches a h) (asks_term b m i)
  asks_term (choice r a b) t (inl e) = inl (ap (λ (x : Question). x.at) e)
  asks_term (choice r a b) t (inr (inl i)) = asks_term a t i
  asks_term (choice r a b) t (inr (inr i)) = asks_term b t i
  asks_term (star r a) t (inl e) = inl (ap (λ (x : Question). x.at) e)
  asks_term (star r a) t (inr (inl i)) = asks_term a t i
  asks_term (star r a) t (inr (inr (m, h, i))) = on (rounds_reach (λ x y. related_reaches a) h) (asks_term a m i)

module _ (s : Site) (rule : Expr) (t : ℕ) {n : ℕ} where
  -- The figure is one number; it does not depend on the query's end, since Asks names none.
  pub figure_unique : {m : ℕ} → Figure s rule t m → Figure s rule t n → m ≡ n
  figure_unique = count_unique

  -- The figure is at most the records times the different terms among the start and the site's.
  pub figure_around : {c : ℕ} → Numbered 0 rule → Figure s rule t n → Count (Around s t) c → n ≤ size rule * c
  figure_around {c} numbered f d =
      rw (← total_same (size rule) c) (count_below f (count_rows (size rule) (λ r. c) (λ r h. d))
      (λ q a. let of = asks_record s q rule 0 t numbered a in (omega arith, asks_term s q rule t a)))

  -- Document 01's ceiling: the records times one more than the different terms in the site, predicates included.
  pub figure_ceiling : {d : ℕ} → Numbered 0 rule → Figure s rule t n → Count (Mentioned s) d → n ≤ size rule * (d + 1)
  figure_ceiling numbered f c =
      let (k, around, more) = count_with t c in
      le_trans (figure_around numbered f around) (mul-le-mul_left (size rule) more)

  -- Where the start is a term of the site, the one more is not needed.
  pub figure_mentioned : {d : ℕ} → Mentioned s t → Numbered 0 rule → Figure s rule t n → Count (Mentioned s) d → n ≤ size rule * d
  figure_mentioned m numbered f c = figure_around numbered f (count_again c m)
