-- What follows once a subexpression is done, told by the lists, is what its context says.
-- The numbers of the lists meet the expression here, in Fair.antt and in Bridge.antt, and nowhere else.
use Prim.Native.Nat.{ℕ}
use mathlib.Core.Path.{◌≡◌, refl, sym, subst₂, ◌∙◌}
use mathlib.Core.Logic.{⊎_elim}
use Rattle.meaning.specs.Site.{Site}
use Rattle.meaning.specs.Expression.{Expr, sequence, choice, star, last, Numbered, Context, whole, test, first_of, second_of, one_of, other_of, round_of, plug}
use Rattle.meaning.specs.Relation.{Rel}
use Rattle.meaning.specs.Fewest.{Goal, State, finished, Free, sequence_on, sequence_out, one_out, other_out, round_again, round_out}
use Rattle.meaning.specs.Left.{Table}
use Rattle.meaning.specs.Question.{question}
use Rattle.meaning.specs.Marks.{Here, Follows}
use Rattle.meaning.proofs.Asked.{free_here, Stands}
use Rattle.fewest.specs.declared.links.Links.{Links}
use Rattle.fewest.specs.Frame.{role_of, up_of, Linked, Frame}
use Rattle.fewest.specs.Next.{Next, on, again, ending, Home, whole as at_home}
use Rattle.fewest.proofs.Roles.{along, operand_before}
use Rattle.fewest.proofs.Nexts.{role_next, role_home, next_as, home_as}

-- the walk from the whole rule at z comes by this state
pub record Comes (s : Site) (z : ℕ) (x : State) : Type 0 where
  pub here : Here s z x

pub comes_free : {s : Site} {z : ℕ} {x y : State} → Free s x y → Comes s z x → Comes s z y
comes_free {s} {z} f c = record { here = free_here s z f c.here }

-- once record r's expression is done at u, all that follows is marked there: what is asked next, and the end
pub record EachNext (F : Frame) (m : Table) (ends : ℕ → ℕ) (u r : ℕ) : Type 0 where
  pub next : (b : ℕ) → Next F r b → m b u ≡ 1
  pub home : Home F r → ends u ≡ 1

module _ {rule : Expr} {L : Links} (numbered : Numbered 0 rule) (linked : Linked rule L) {s : Site} {g : Goal} where
  -- Where a subexpression is done, what the lists say is asked next is asked.
  pub next_asked : (e : Expr) (K : Context) {b z u : ℕ} → plug e K ≡ rule → Next (along L s g) (last e) b →
      Comes s z (finished e K u) → Stands s z rule (question b u)
  next_asked e whole p n c = absurd (role_next linked e whole p n)
  next_asked e (test r a K) p n c = absurd (role_next linked e (test r a K) p n)
  next_asked e (first_of r b K) p n c =
      let second = operand_before numbered (sequence r e b) K p in
      (b, second_of r e K, p, sym (role_next linked e (first_of r b K) p n ∙ second), (comes_free sequence_on c).here)
  next_asked e (second_of r a K) p n c =
      next_asked (sequence r a e) K p (next_as linked e (sequence r a e) (second_of r a K) K p p refl refl n) (comes_free sequence_out c)
  next_asked e (one_of r b K) p n c =
      next_asked (choice r e b) K p (next_as linked e (choice r e b) (one_of r b K) K p p refl refl n) (comes_free one_out c)
  next_asked e (other_of r a K) p n c =
      next_asked (choice r a e) K p (next_as linked e (choice r a e) (other_of r a K) K p p refl refl n) (comes_free other_out c)
  next_asked e (round_of r K) p n c =
      let round = operand_before numbered (star r e) K p in
      ⊎_elim (λ h. (e, round_of r K, p, sym (h ∙ round), (comes_free round_again c).here))
      (λ h. next_asked (star r e) K p h (comes_free round_out c)) (role_next linked e (round_of r K) p n)

  -- Where a subexpression is done and the lists say that the whole rule is, the rule relates the start to that term.
  pub home_related : (e : Expr) (K : Context) {z u : ℕ} → plug e K ≡ rule → Home (along L s g) (last e) →
      Comes s z (finished e K u) → Rel s rule z u
  home_related e whole {u = u} p h c = let (t, start, v) = c.here in subst₂ (λ x y. Rel s x y u) p start v
  home_related e (test r a K) p h c = absurd (role_home linked e (test r a K) p h)
  home_related e (first_of r b K) p h c = absurd (role_home linked e (first_of r b K) p h)
  home_related e (second_of r a K) p h c =
      home_related (sequence r a e) K p (home_as linked e (sequence r a e) (second_of r a K) K p p refl refl h) (comes_free sequence_out c)
  home_related e (one_of r b K) p h c =
      home_related (choice r e b) K p (home_as linked e (choice r e b) (one_of r b K) K p p refl refl h) (comes_free one_out c)
  home_related e (other_of r a K) p h c =
      home_related (choice r a e) K p (home_as linked e (choice r a e) (other_of r a K) K p p refl refl h) (comes_free other_out c)
  home_related e (round_of r K) p h c = home_related (star r e) K p (role_home linked e (round_of r K) p h) (comes_free round_out c)

  -- all that follows what finishes with its parent follows the parent
  all_as : {m : Table} {ends : ℕ → ℕ} {u : ℕ} (e f : Expr) (K J : Context) → plug e K ≡ rule → plug f J ≡ rule → up_of J ≡ up_of K →
      role_of J ≡ role_of K → EachNext (along L s g) m ends u (last e) → EachNext (along L s g) m ends u (last f)
  all_as e f K J p q ups roles all =
      record { next = λ b n. all.next b (next_as linked f e J K q p ups roles n); home = λ h. all.home (home_as linked f e J K q p ups roles h) }

  -- Where all that the lists say follows is marked, all that the context says follows is.
  pub all_follows : {m : Table} {ends : ℕ → ℕ} {u : ℕ} (e : Expr) (K : Context) → plug e K ≡ rule →
      EachNext (along L s g) m ends u (last e) → Follows m ends e K u
  all_follows {m} {ends} {u} e whole p c = c.home (at_home (linked.roles e whole p))
  all_follows e (test r a K) p c = tt
  all_follows e (first_of r b K) p c =
      rw (← operand_before numbered (sequence r e b) K p, ← linked.ups e (first_of r b K) p) (c.next _ (on (linked.roles e (first_of r b K) p)))
  all_follows e (second_of r a K) p c =
      all_follows (sequence r a e) K p (all_as e (sequence r a e) (second_of r a K) K p p refl refl c)
  all_follows e (one_of r b K) p c =
      all_follows (choice r e b) K p (all_as e (choice r e b) (one_of r b K) K p p refl refl c)
  all_follows e (other_of r a K) p c =
      all_follows (choice r a e) K p (all_as e (choice r a e) (other_of r a K) K p p refl refl c)
  all_follows {m} {ends} {u} e (round_of r K) p c =
      let up = linked.ups e (round_of r K) p in
      let role = linked.roles e (round_of r K) p in (
        rw (← operand_before numbered (star r e) K p, ← up) (c.next _ (again role)),
        all_follows {m = m} {ends = ends} {u = u} (star r e) K p (record { next = λ b n. c.next b (ending role (rw up n)); home = λ h. c.home (ending role (rw up h)) }),
      )
