-- The relation, the questions and the figure of document 01, computed: lists read off the definitions, clause by clause.
-- What is computed is right for every rule and start at which each star's list came to be closed, which is a test too.
use Prim.Native.Nat.{ℕ}
use mathlib.Core.Path.{refl, sym, subst}
use mathlib.Core.Bool.{Bool, true, ◌&&◌}
use mathlib.Core.Logic.Iff
use mathlib.Core.Logic.{◌↔◌, ⊎_map}
use mathlib.Core.List.Memᴰ
use mathlib.Core.List.{List, [], ◌∷◌, ◌++◌, flat_map, map}
use lib.ListN.{length}
use lib.Dec.{T, eqb}
use Rattle.meaning.specs.Site.{Site}
use Rattle.meaning.specs.Move.{any, Move}
use Rattle.meaning.specs.Expression.{Expr, step, tested, sequence, choice, star}
use Rattle.meaning.specs.Relation.{Plus, Rel}
use Rattle.meaning.specs.Question.{Question, question, Asks, Figure}
use Rattle.meaning.proofs.Listed.{◌∈◌, both_pass, all_pass, both_right, eqb_right, ⊎-right, given, in_given, in_cons, in_append, in_flat_map, of_flat_map, through, each, each_right, Sameness, has, has_right, unrepeated, unrepeated_members, unrepeated_different}
use Rattle.meaning.proofs.Reached.{rounds, closed, rounds_sound, rounds_whole}
use Rattle.meaning.proofs.Listing.{Moved, moved, stands, stands_right, moves, moves_right}

abbrev pub same_number : Sameness ℕ
same_number = record { test = eqb; right = eqb_right }

abbrev pub same_question : Sameness Question
same_question = record {
  test = λ p q. eqb p.of q.of && eqb p.at q.at;
  right = λ p q.
      Iff.trans (both_right (eqb p.of q.of) (eqb p.at q.at) (eqb_right p.of q.of) (eqb_right p.at q.at))
      (λ (e, e') i. question (e i) (e' i), λ e. (λ i. (e i).of, λ i. (e i).at));
}

module _ (s : Site) where
  -- the terms to which the expression relates t; the fuel of a star is the number of triples
  unfoldable pub ends : Expr → ℕ → List ℕ
  ends (step r a l) t = map (λ h. h.to) (moves s a l t)
  ends (tested r a x) t = flat_map (λ h. map (λ v. h.to) (ends x h.past)) (moves s a any t)
  ends (sequence r a b) t = flat_map (ends b) (ends a t)
  ends (choice r a b) t = ends a t ++ ends b t
  ends (star r a) t = given (stands s t) t ++ rounds same_number (ends a) (length s) t

  -- the terms reached from t by one or more rounds
  unfoldable pub reached : Expr → ℕ → List ℕ
  unfolding ends
  reached a t = rounds same_number (ends a) (length s) t

  -- whether the expression relates t to u
  unfoldable pub relates : Expr → ℕ → ℕ → Bool
  unfolding ends
  relates e t u = has same_number u (ends e t)

  -- the questions asked once the expression is asked at t
  unfoldable pub asks : Expr → ℕ → List Question
  unfolding reached
  asks (step r a l) t = question r t ∷ []
  asks (tested r a x) t = question r t ∷ flat_map (λ h. asks x h.past) (moves s a any t)
  asks (sequence r a b) t = question r t ∷ (asks a t ++ flat_map (asks b) (ends a t))
  asks (choice r a b) t = question r t ∷ (asks a t ++ asks b t)
  asks (star r a) t = question r t ∷ (asks a t ++ flat_map (asks a) (reached a t))

  -- the number of different questions
  unfoldable pub figure : Expr → ℕ → ℕ
  unfolding asks
  figure e t = length (unrepeated same_question (asks e t))

  -- each star's list is closed, wherever one was computed
  unfoldable pub sure : Expr → ℕ → Bool
  unfolding reached
  sure (step r a l) t = true
  sure (tested r a x) t = each (λ h. sure x h.past) (moves s a any t)
  sure (sequence r a b) t = sure a t && each (sure b) (ends a t)
  sure (choice r a b) t = sure a t && sure b t
  sure (star r a) t = sure a t && each (sure a) (reached a t) && closed same_number (ends a) (reached a t)

  -- the same as a statement
  abbrev pub Sure : Expr → ℕ → Type 0
  Sure (step r a l) t = Unit
  Sure (tested r a x) t = (h : Moved) → h ∈ moves s a any t → Sure x h.past
  Sure (sequence r a b) t = Sure a t × ((m : ℕ) → m ∈ ends a t → Sure b m)
  Sure (choice r a b) t = Sure a t × Sure b t
  Sure (star r a) t = Sure a t × ((m : ℕ) → m ∈ reached a t → Sure a m) × T (closed same_number (ends a) (reached a t))

  pub sure_right : (e : Expr) (t : ℕ) → T (sure e t) → Sure e t
  unfolding sure
  sure_right (step r a l) t c = tt
  sure_right (tested r a x) t c =
      λ h m. sure_right x h.past (each_right (λ h. sure x h.past) (moves s a any t) c h m)
  sure_right (sequence r a b) t c =
      let (p, q) = both_pass (sure a t) (each (sure b) (ends a t)) c in
      (sure_right a t p, λ m i. sure_right b m (each_right (sure b) (ends a t) q m i))
  sure_right (choice r a b) t c =
      let (p, q) = both_pass (sure a t) (sure b t) c in
      (sure_right a t p, sure_right b t q)
  sure_right (star r a) t c =
      let (p, q, o) = all_pass (sure a t) (each (sure a) (reached a t)) (closed same_number (ends a) (reached a t)) c in
      (sure_right a t p, λ m i. sure_right a m (each_right (sure a) (reached a t) q m i), o)

  -- every end that is computed is related
  pub ends_sound : (e : Expr) (t u : ℕ) → u ∈ ends e t → Rel s e t u
  unfolding reached
  ends_sound (step r a l) t u i =
      let (h, m, e) = Memᴰ.of_map (λ h. h.to) (moves s a l t) i in
      (h.over, h.past, subst (Move s a l h.over t h.past) e ((moves_right s a l t h).0 m))
  ends_sound (tested r a x) t u i =
      let (h, m, j) = of_flat_map (λ h. map (λ v. h.to) (ends x h.past)) (moves s a any t) i in
      let (v, n, e) = Memᴰ.of_map (λ v. h.to) (ends x h.past) j in
      (h.over, h.past, subst (Move s a any h.over t h.past) e ((moves_right s a any t h).0 m), (v, ends_sound x h.past v n))
  ends_sound (sequence r a b) t u i =
      let (m, j, k) = of_flat_map (ends b) (ends a t) i in
      (m, ends_sound a t m j, ends_sound b m u k)
  ends_sound (choice r a b) t u i = ⊎_map (ends_sound a t u) (ends_sound b t u) ((in_append (ends a t) (ends b t)).0 i)
  ends_sound (star r a) t u i =
      ⊎_map (λ j. let (v, e) = (in_given (stands s t)).0 j in ((stands_right s t).0 v, sym e))
      (rounds_sound same_number (ends a) (ends_sound a) (length s))
      ((in_append (given (stands s t) t) (reached a t)).0 i)

  reached_whole : (r : ℕ) (a : Expr) (t : ℕ) → Sure (star r a) t → ((x y : ℕ) → Sure a x → Rel s a x y → y ∈ ends a x) →
      (u : ℕ) → Plus (Rel s a) t u → u ∈ reached a t
  unfolding reached
  reached_whole r a t (c, d, o) whole u p =
      rounds_whole same_number (ends a) (length s) o (λ y. whole t y c) (λ x y i. whole x y (d x i)) p

  -- everything related is computed, where each star's list is closed
  pub ends_whole : (e : Expr) (t u : ℕ) → Sure e t → Rel s e t u → u ∈ ends e t
  unfolding reached
  ends_whole (step r a l) t u c (k, m, v) = Memᴰ.map (λ h. h.to) ((moves_right s a l t (moved k m u)).1 v)
  ends_whole (tested r a x) t u c (k, m, v, (w, p)) =
      let i = (moves_right s a any t (moved k m u)).1 v in
      in_flat_map (λ h. map (λ v. h.to) (ends x h.past)) i (Memᴰ.map (λ v. u) (ends_whole x m w (c (moved k m u) i) p))
  ends_whole (sequence r a b) t u (c, d) (m, p, q) =
      let i = ends_whole a t m c p in
      in_flat_map (ends b) i (ends_whole b m u (d m i) q)
  ends_whole (choice r a b) t u (c, d) p = (in_append (ends a t) (ends b t)).1 (⊎_map (ends_whole a t u c) (ends_whole b t u d) p)
  ends_whole (star r a) t u c p =
      (in_append (given (stands s t) t) (reached a t)).1
      (⊎_map (λ (v, e). (in_given (stands s t)).1 ((stands_right s t).1 v, sym e)) (reached_whole r a t c (ends_whole a) u) p)

  -- the ends computed are exactly the terms to which the expression relates t
  pub ends_right : (e : Expr) (t : ℕ) → Sure e t → (u : ℕ) → (u ∈ ends e t) ↔ Rel s e t u
  ends_right e t c u = (ends_sound e t u, ends_whole e t u c)

  -- so the computed answer is the relation's
  pub relates_right : (e : Expr) (t : ℕ) → Sure e t → (u : ℕ) → T (relates e t u) ↔ Rel s e t u
  unfolding relates
  relates_right e t c u = Iff.trans (has_right same_number u (ends e t)) (ends_right e t c u)

  reached_right : (r : ℕ) (a : Expr) (t : ℕ) → Sure (star r a) t → (u : ℕ) → (u ∈ reached a t) ↔ Plus (Rel s a) t u
  unfolding reached
  reached_right r a t c u = (rounds_sound same_number (ends a) (ends_sound a) (length s), reached_whole r a t c (ends_whole a) u)

  -- the questions computed are exactly those asked
  pub asks_right : (e : Expr) (t : ℕ) → Sure e t → (q : Question) → (q ∈ asks e t) ↔ Asks s e t q
  unfolding asks
  asks_right (step r a l) t c q = (Memᴰ.eq_of_singleton, λ e. Memᴰ.head e)
  asks_right (tested r a x) t c q = in_cons (
    λ i.
        let (h, m, j) = of_flat_map (λ h. asks x h.past) (moves s a any t) i in
        (h.over, h.past, h.to, (moves_right s a any t h).0 m, (asks_right x h.past (c h m) q).0 j),
    λ (k, m, u, v, p).
        let i = (moves_right s a any t (moved k m u)).1 v in
        in_flat_map (λ h. asks x h.past) i ((asks_right x m (c (moved k m u) i) q).1 p),
  )
  asks_right (sequence r a b) t (c, d) q =
      in_cons (Iff.trans (in_append (asks a t) (flat_map (asks b) (ends a t)))
      (⊎-right (asks_right a t c q) (through (asks b) (ends a t) (ends_right a t c) (λ m i. asks_right b m (d m i) q))))
  asks_right (choice r a b) t (c, d) q = in_cons (Iff.trans (in_append (asks a t) (asks b t)) (⊎-right (asks_right a t c q) (asks_right b t d q)))
  asks_right (star r a) t (c, d, o) q =
      in_cons (Iff.trans (in_append (asks a t) (flat_map (asks a) (reached a t)))
      (⊎-right (asks_right a t c q) (through (asks a) (reached a t) (reached_right r a t (c, d, o)) (λ m i. asks_right a m (d m i) q))))

  -- the number computed is the figure
  pub figure_right : (e : Expr) (t : ℕ) → Sure e t → Figure s e t (figure e t)
  unfolding figure
  figure_right e t c = record {
    list = unrepeated same_question (asks e t);
    different = unrepeated_different same_question (asks e t);
    exactly = λ q. Iff.trans (unrepeated_members same_question (asks e t)) (asks_right e t c q);
    long = refl;
  }
