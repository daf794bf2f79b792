-- Asked by context is document 01's list of bullets, and the walk from the whole rule comes by just those states.
-- If a subexpression is asked at t and relates t to u, what follows it is asked at u.
use Prim.Native.Nat.{ℕ}
use mathlib.Core.Path.{◌≡◌, refl, sym, subst, subst₂, ap}
use mathlib.Core.Logic.{inl, inr, ◌↔◌}
use Rattle.meaning.specs.Site.{Site}
use Rattle.meaning.specs.Move.{Move, Axis, Label, any}
use Rattle.meaning.specs.Expression.{Expr, step, tested, sequence, choice, star, last, Numbered, Context, whole, test, first_of, second_of, one_of, other_of, round_of, plug}
use Rattle.meaning.specs.Relation.{once, Holds}
use Rattle.meaning.specs.Fewest.{State, entered, finished, Free, sequence_in, sequence_on, sequence_out, one_in, one_out, other_in, other_out, round_in, round_empty, round_again, round_out}
use Rattle.meaning.specs.Question.{Question, question, Asks}
use Rattle.meaning.specs.Marks.{Asked, Here}
use Rattle.meaning.proofs.Names.{one_node}
use Rattle.meaning.proofs.Rounds.{plus_then_once}

module _ (s : Site) (z : ℕ) where
  -- what costs no step leads from where the walk comes by to where it comes by
  pub free_here : {x y : State} → Free s x y → Here s z x → Here s z y
  free_here sequence_in h = h
  free_here sequence_on h = h
  free_here sequence_out (m, (t, h, p), q) = (t, h, (m, p, q))
  free_here one_in h = h
  free_here one_out (t, h, p) = (t, h, inl p)
  free_here other_in h = h
  free_here other_out (t, h, p) = (t, h, inr p)
  free_here round_in h = inl h
  free_here (round_empty {t = t} v) h = (t, h, inl (v, refl))
  free_here round_again (t, inl h, p) = inr (t, h, once p)
  free_here round_again (t, inr (i, h, q), p) = inr (i, h, plus_then_once q p)
  free_here round_out (t, inl h, p) = (t, h, inr (once p))
  free_here round_out (t, inr (i, h, q), p) = (i, h, inr (plus_then_once q p))

  pub step_here : (r : ℕ) {a : Axis} {l : Label} (K : Context) {k t m u : ℕ} → Move s a l k t m u →
      Here s z (entered (step r a l) K t) → Here s z (finished (step r a l) K u)
  step_here r K {k} {t} {m} v h = (t, h, (k, m, v))

  pub test_here : (r : ℕ) {a : Axis} (x : Expr) (K : Context) {k t m u : ℕ} → Move s a any k t m u → Holds s x m →
      Here s z (entered (tested r a x) K t) → Here s z (finished (tested r a x) K u)
  test_here r x K {k} {t} {m} v w h = (t, h, (k, m, v, w))

  -- what a subexpression asks where it is asked, the whole rule asks
  pub asked_asks : (q : Question) (e : Expr) (K : Context) (t : ℕ) → Asked s z e K t → Asks s e t q → Asks s (plug e K) z q
  asked_asks q e whole t h w = subst (λ v. Asks s e v q) h w
  asked_asks q e (test r a K) m (k, t, u, v, h) w = asked_asks q (tested r a e) K t h (inr (k, m, u, v, w))
  asked_asks q e (first_of r b K) t h w = asked_asks q (sequence r e b) K t h (inr (inl w))
  asked_asks q e (second_of r a K) m (t, h, v) w = asked_asks q (sequence r a e) K t h (inr (inr (m, v, w)))
  asked_asks q e (one_of r b K) t h w = asked_asks q (choice r e b) K t h (inr (inl w))
  asked_asks q e (other_of r a K) t h w = asked_asks q (choice r a e) K t h (inr (inr w))
  asked_asks q e (round_of r K) t (inl h) w = asked_asks q (star r e) K t h (inr (inl w))
  asked_asks q e (round_of r K) t (inr (i, h, v)) w = asked_asks q (star r e) K i h (inr (inr (t, v, w)))

  -- an expression asked at a term is itself a question there
  pub asks_itself : (e : Expr) (t : ℕ) → Asks s e t (question (last e) t)
  asks_itself (step r a l) t = refl
  asks_itself (tested r a x) t = inl refl
  asks_itself (sequence r a b) t = inl refl
  asks_itself (choice r a b) t = inl refl
  asks_itself (star r a) t = inl refl

  pub asked_question : (e : Expr) (K : Context) (t : ℕ) → Asked s z e K t → Asks s (plug e K) z (question (last e) t)
  asked_question e K t h = asked_asks (question (last e) t) e K t h (asks_itself e t)

  -- the question q is a subexpression that stands in the rule and is asked at its term
  abbrev pub Stands : Expr → Question → Type 0
  Stands rule q = (e : Expr) × (K : Context) × (plug e K ≡ rule) × (last e ≡ q.of) × Asked s z e K q.at

  stands : {q : Question} (e : Expr) (K : Context) (t : ℕ) → q ≡ question (last e) t → Asked s z e K t → Stands (plug e K) q
  stands e K t p h = (e, K, refl, sym (ap (λ (q : Question). q.of) p), subst (Asked s z e K) (sym (ap (λ (q : Question). q.at) p)) h)

  -- what the whole rule asks is a subexpression asked by its context
  pub asks_asked : {q : Question} (e : Expr) (K : Context) (t : ℕ) → Asked s z e K t → Asks s e t q → Stands (plug e K) q
  asks_asked (step r a l) K t h w = stands (step r a l) K t w h
  asks_asked (tested r a x) K t h (inl w) = stands (tested r a x) K t w h
  asks_asked (tested r a x) K t h (inr (k, m, u, v, w)) = asks_asked x (test r a K) m (k, t, u, v, h) w
  asks_asked (sequence r a b) K t h (inl w) = stands (sequence r a b) K t w h
  asks_asked (sequence r a b) K t h (inr (inl w)) = asks_asked a (first_of r b K) t h w
  asks_asked (sequence r a b) K t h (inr (inr (m, v, w))) = asks_asked b (second_of r a K) m (t, h, v) w
  asks_asked (choice r a b) K t h (inl w) = stands (choice r a b) K t w h
  asks_asked (choice r a b) K t h (inr (inl w)) = asks_asked a (one_of r b K) t h w
  asks_asked (choice r a b) K t h (inr (inr w)) = asks_asked b (other_of r a K) t h w
  asks_asked (star r a) K t h (inl w) = stands (star r a) K t w h
  asks_asked (star r a) K t h (inr (inl w)) = asks_asked a (round_of r K) t (inl h) w
  asks_asked (star r a) K t h (inr (inr (m, v, w))) = asks_asked a (round_of r K) m (inr (t, h, v)) w

  -- document 01's reading and the context's are one
  pub asks_by_context : (rule : Expr) (q : Question) → Asks s rule z q ↔ Stands rule q
  asks_by_context rule q = (asks_asked rule whole z refl, back)
    where
      back : Stands rule q → Asks s rule z q
      back (e, K, p, o, h) =
          subst (λ f. Asks s f z q) p (subst (λ n. Asks s (plug e K) z (question n q.at)) o (asked_question e K q.at h))

  -- A record number names one subexpression in one place: where it is a question, that subexpression is asked there.
  pub asks_node : {rule : Expr} → Numbered 0 rule → (e : Expr) (K : Context) → plug e K ≡ rule → (t : ℕ) →
      Asks s rule z (question (last e) t) → Asked s z e K t
  asks_node {rule} n e K p t h =
      let (f, J, q, o, a) = (asks_by_context rule (question (last e) t)).0 h in
      let (same, place) = one_node n f e J K q p o in
      subst₂ (λ x C. Asked s z x C t) same place a
