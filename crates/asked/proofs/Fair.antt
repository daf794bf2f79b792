-- Marking only what is asked for keeps the tables fair: each mark is a question of document 01, each marked end an end.
-- The work of a record, read off the lists, is told here as what it does at the subexpression that the record names.
use Prim.Native.Nat.{ℕ, ◌*◌, ◌<◌, ◌≤◌}
use mathlib.Core.Path.{◌≡◌, refl, sym, subst, subst₂, ◌∙◌}
use mathlib.Core.Logic.{⊎_elim}
use mathlib.Core.List.Memᴰ
use mathlib.Core.List.{List, Memᴰ}
use native.Mathlib.Omega.{arith}
use native.Mathlib.Decide.{dec_lt}
use lib.ListN.{length, get_or, set, replicate, length-set, length-replicate, get_or-replicate, get_or-eq_default}
use Rattle.meaning.specs.Limits.{terms, records}
use Rattle.meaning.specs.Site.{Site, Within}
use Rattle.meaning.specs.Move.{Axis, Label}
use Rattle.meaning.specs.Expression.{Rec, Expr, step, tested, sequence, choice, star, last, Expression, Context, test, first_of, one_of, other_of, round_of, plug}
use Rattle.meaning.specs.Relation.{Rel}
use Rattle.meaning.specs.Fewest.{Goal, entered, finished, Free, sequence_in, one_in, other_in, round_in, round_empty, Numbers}
use Rattle.meaning.specs.Question.{question, Asks}
use Rattle.meaning.specs.Marks.{Justified, Arrived}
use Rattle.meaning.proofs.Asked.{step_here, test_here, asks_itself, asks_by_context, asks_node, Stands}
use Rattle.meaning.proofs.Ceiling.{asks_record}
use Rattle.meaning.proofs.Moves.{move_passes, among}
use Rattle.meaning.proofs.Postfix.{expression_long, node_at}
use Rattle.meaning.proofs.Ways.{fewest_holds}
use Rattle.fewest.specs.declared.links.Links.{Links}
use Rattle.fewest.specs.Frame.{Linked}
use Rattle.fewest.specs.Offer.{place, view, Work, stepping, proving, copying, resting}
use Rattle.fewest.proofs.Places.{one_place, place_below, stored}
use Rattle.fewest.proofs.Roles.{along, operand_before}
use Rattle.fewest.proofs.Works.{works, record_works}
use Rattle.asked.specs.Mark.{Marks, marks, begun, Marked, by_step, by_test, by_rest, follows, tests, enters, Done, done, Asking, asking, Marking, stay, mark, arrive, MarksOn, rest, work}
use Rattle.asked.proofs.Marking.{never_leads}
use Rattle.asked.proofs.Following.{Comes, comes_free, next_asked, home_related}

-- the byte table has its length, its entries and the ends' are 0 or 1, each mark is a question that is asked, and to each
-- marked end the rule relates the start
pub record Fair (s : Site) (z : ℕ) (rule : Expr) (M : Marks) : Type 0 where
  pub long : length M.asked ≡ records * terms
  pub bits : (i : ℕ) → get_or M.asked i 0 ≤ 1
  pub end_bits : (u : ℕ) → get_or M.ends u 0 ≤ 1
  pub justified : Justified s z rule (view M.asked)
  pub arrived : Arrived s z rule (λ u. get_or M.ends u 0)

-- what a subexpression's work does: it takes a step, with a test or without; it enters an operand; it passes a star empty
data Does (s : Site) : Expr → Context → Work → Type 0 where
  steps : {r : ℕ} {a : Axis} {l : Label} {K : Context} → Does s (step r a l) K (stepping a l)
  proves : {r : ℕ} {a : Axis} {x : Expr} {K : Context} → Does s (tested r a x) K (proving a)
  goes_in : {e : Expr} {K : Context} (f : Expr) (J : Context) → plug f J ≡ plug e K → ((t : ℕ) → Free s (entered e K t) (entered f J t)) →
      Does s e K (copying (last f))
  rests : {r : ℕ} {a : Expr} {K : Context} → Does s (star r a) K resting

does : {s : Site} (e : Expr) (K : Context) {w : Work} → Memᴰ w (works e) → Does s e K w
does {s} (step r a l) K i = subst (Does s (step r a l) K) (sym (Memᴰ.eq_of_singleton i)) steps
does {s} (tested r a x) K i = subst (Does s (tested r a x) K) (sym (Memᴰ.eq_of_singleton i)) proves
does {s} (sequence r a b) K i =
    subst (Does s (sequence r a b) K) (sym (Memᴰ.eq_of_singleton i)) (goes_in a (first_of r b K) refl (λ t. sequence_in))
does {s} (choice r a b) K i =
    ⊎_elim (λ j. subst (Does s (choice r a b) K) (sym j) (goes_in a (one_of r b K) refl (λ t. one_in)))
    (λ j. subst (Does s (choice r a b) K) (sym (Memᴰ.eq_of_singleton j)) (goes_in b (other_of r a K) refl (λ t. other_in))) (Memᴰ.cases_cons i)
does {s} (star r a) K i =
    ⊎_elim (λ j. subst (Does s (star r a) K) (sym j) (goes_in a (round_of r K) refl (λ t. round_in)))
    (λ j. subst (Does s (star r a) K) (sym (Memᴰ.eq_of_singleton j)) rests) (Memᴰ.cases_cons i)

-- A table of zeros has nothing else.
pub zeros : (n i : ℕ) → get_or {A = ℕ} (replicate n 0) i 0 ≡ 0
zeros n i = elim (dec_lt i n) [
  | yes h ↦ get_or-replicate n i 0 0 h
  | no h ↦ get_or-eq_default (replicate n 0) 0 (omega (arith, length-replicate {A = ℕ} n 0))
]

-- Tables without a mark are fair.
blank_fair : {s : Site} {z : ℕ} {rule : Expr} (n : ℕ) → Fair s z rule (marks (replicate (records * terms) 0) (replicate n 0))
unfolding view
blank_fair n = record {
  long = length-replicate (records * terms) 0;
  bits = λ i. omega (arith, zeros (records * terms) i);
  end_bits = λ u. omega (arith, zeros n u);
  justified = record { asked = λ r t b h. absurd (omega (arith, zeros (records * terms) (place r t))) };
  arrived = record { related = λ u b h. absurd (omega (arith, zeros n u)) };
}

-- a store of 1 keeps a table of 0 and 1
bits_kept : (l : List ℕ) (i : ℕ) → i < length l → ((k : ℕ) → get_or l k 0 ≤ 1) → (k : ℕ) → get_or (set l i 1) k 0 ≤ 1
bits_kept l i h bits k = ⊎_elim (λ e. omega arith) (λ e. omega (arith, bits k)) (stored l i 1 h k)

module _ {rs : List Rec} {rule : Expr} (x : Expression rs rule) {s : Site} {z : ℕ} {M : Marks} (fair : Fair s z rule M) where
  -- a marked subexpression is entered
  comes_marked : (e : Expr) (K : Context) {t : ℕ} → plug e K ≡ rule → t < terms → Marked M (last e) t → Comes s z (entered e K t)
  comes_marked e K {t} p b h = record { here = asks_node s z x.numbered e K p t (fair.justified.asked (last e) t b h) }

  -- a mark at a question that is asked keeps the tables fair
  mark_fair : length rs ≤ records → (b t : ℕ) → t < terms → Asks s rule z (question b t) →
      Fair s z rule (marks (set M.asked (place b t) 1) M.ends)
  unfolding view
  mark_fair few b t h a =
      let row : b < records = omega (arith, asks_record s (question b t) rule 0 z x.numbered a, expression_long x) in
      let inside : place b t < length M.asked = omega (arith, place_below row h) in
      record {
        long = length-set M.asked (place b t) 1 ∙ fair.long;
        bits = bits_kept M.asked (place b t) inside fair.bits;
        end_bits = fair.end_bits;
        justified = record {
          asked = λ r u c m. ⊎_elim
              (λ e. let (q, v) = one_place c h e.0 in subst₂ (λ n w. Asks s rule z (question n w)) (sym q) (sym v) a)
              (λ e. fair.justified.asked r u c (sym e ∙ m))
              (stored M.asked (place b t) 1 inside (place r u));
        };
        arrived = fair.arrived;
      }

  -- and so does a mark at an end
  arrive_fair : (u : ℕ) → u < length M.ends → Rel s rule z u → Fair s z rule (marks M.asked (set M.ends u 1))
  arrive_fair u h a = record {
    long = fair.long;
    bits = fair.bits;
    end_bits = bits_kept M.ends u h fair.end_bits;
    justified = fair.justified;
    arrived = record {
      related = λ v c m. ⊎_elim (λ e. subst (Rel s rule z) (sym e.0) a) (λ e. fair.arrived.related v c (sym e ∙ m)) (stored M.ends u 1 h v);
    };
  }

  module _ {L : Links} (linked : Linked rule L) (ok : Within s) {g : Goal} {T : List ℕ} (numbers : Numbers s g rule (view T)) where
    -- where its work says that it is done, it is
    comes_done : (e : Expr) (K : Context) {w : Work} {u : ℕ} → plug e K ≡ rule → Does s e K w → Done (along L s g) T M (last e) u w →
        Comes s z (finished e K u)
    unfolding Numbers
    comes_done e K p (steps {r}) (done h b (by_step v)) = record { here = step_here s z r K v (comes_marked e K p b h).here }
    comes_done e K p (proves {r} {a} {x = y}) (done h b (by_test {i = i} v l)) =
        let number = rw (operand_before x.numbered e K p) at l in
        let holds = (fewest_holds s g r a y K i (numbers y (test r a K) p i (among ok b (move_passes v)))).0 number in
        record { here = test_here s z r y K v holds (comes_marked e K p b h).here }
    comes_done e K p (goes_in f J q enter) (done h b l) = absurd (never_leads l)
    comes_done e K p rests (done h b (by_rest same v)) = rw same (comes_free (round_empty v) (comes_marked e K p b h))

    -- and what its work asks for is asked
    asking_stands : (e : Expr) (K : Context) {w : Work} {b t : ℕ} → plug e K ≡ rule → Does s e K w → Asking (along L s g) T M (last e) b t w →
        Stands s z rule (question b t)
    asking_stands e K p d (asking h b (follows o n)) = next_asked x.numbered linked e K p n (comes_done e K p d (done h b o))
    asking_stands e K p (proves {r} {a} {x = y}) (asking {t = i} h b (tests {k = k} {u = u} o v)) =
        (y, test r a K, p, sym (o ∙ operand_before x.numbered e K p), (k, i, u, v, (comes_marked e K p b h).here))
    asking_stands e K p (goes_in f J q enter) (asking {t = t} h b (enters o same)) =
        rw same (f, J, q ∙ p, sym o, (comes_free (enter t) (comes_marked e K p b h)).here)

module _ {rs : List Rec} {rule : Expr} (x : Expression rs rule) (few : length rs ≤ records) {s : Site} {z : ℕ} where
  -- The tables to begin with are fair.
  pub begun_fair : (n : ℕ) → z < terms → Fair s z rule (begun (last rule) z n)
  unfolding begun
  begun_fair n h = mark_fair x (blank_fair n) few (last rule) z h (asks_itself s z rule z)

  module _ {L : Links} (linked : Linked rule L) (ok : Within s) {g : Goal} {T : List ℕ} (numbers : Numbers s g rule (view T)) where
    marking_fair : (e : Expr) (K : Context) {w : Work} {M N : Marks} → plug e K ≡ rule → Does s e K w → Marking (along L s g) T w (last e) M N →
        Fair s z rule M → Fair s z rule N
    marking_fair e K p d stay f = f
    marking_fair e K p d (mark {b} {t} q h a o) f =
        let before = marking_fair e K p d q f in
        mark_fair x before few b t h ((asks_by_context s z rule (question b t)).1 (asking_stands x before linked ok numbers e K p d a))
    marking_fair e K p d (arrive {u} q h a o i) f =
        let before = marking_fair e K p d q f in
        arrive_fair x before u h (home_related x.numbered linked e K p o (comes_done x before linked ok numbers e K p d a))

    -- Marking what is asked for keeps the tables fair.
    pub marks_on_fair : {M N : Marks} → MarksOn (along L s g) T rs L.first M N → Fair s z rule M → Fair s z rule N
    marks_on_fair rest f = f
    marks_on_fair (work {r} q h i l) f =
        let (e, K, p, o) = node_at x r h in
        marking_fair e K p (does e K (rw (record_works x linked e K p) at (rw (← o) at i))) (rw (← o) at l) (marks_on_fair q f)
