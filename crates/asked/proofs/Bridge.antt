-- From the lists and tables that the loops know to document 01's questions and ends: marking only what is asked for keeps
-- the tables fair, and when nothing asked for is unmarked they are followed. So the marks are the questions and the ends.
use Prim.Native.Nat.{ℕ, zero, suc, ◌*◌, ◌-◌, ◌<◌, ◌≤◌}
use mathlib.Core.Path.{◌≡◌, refl, sym, ◌∙◌}
use mathlib.Core.Logic.{◌↔◌}
use mathlib.Core.List.{List, [], ◌∷◌, Memᴰ}
use native.Mathlib.Omega.{arith}
use native.Mathlib.Decide.{dec_lt}
use lib.ListN.{length, get_or, replicate, get_or-eq_default, length-replicate}
use Rattle.meaning.specs.Limits.{terms, records, none}
use Rattle.meaning.specs.Site.{Site, Within}
use Rattle.meaning.specs.Expression.{Rec, Expr, step, tested, sequence, choice, star, last, Expression, Context, whole, test, plug}
use Rattle.meaning.specs.Relation.{Rel}
use Rattle.meaning.specs.Fewest.{Goal, end, Numbers}
use Rattle.meaning.specs.Question.{Question, question, Asks, Count, Figure}
use Rattle.meaning.specs.Marks.{Follows, Arrived, Followed}
use Rattle.meaning.proofs.Ceiling.{asks_record, asks_term}
use Rattle.meaning.specs.Question.{Tells}
use Rattle.meaning.proofs.Counting.{count_same, count_told, count_table}
use Rattle.meaning.proofs.Marked.{marks_exact, ends_exact}
use Rattle.meaning.proofs.Moves.{move_passes, move_reaches, related_reaches, among}
use Rattle.meaning.proofs.Names.{last_number}
use Rattle.meaning.proofs.Postfix.{expression_long}
use Rattle.meaning.proofs.Ways.{fewest_holds, fewest_related}
use Rattle.fewest.specs.declared.links.Links.{Links}
use Rattle.fewest.specs.Frame.{Linked}
use Rattle.fewest.specs.Offer.{place, view, Work}
use Rattle.fewest.specs.Sweep.{sum}
use Rattle.fewest.proofs.Bridge.{node_record}
use Rattle.fewest.proofs.Places.{place_below, view_set_same}
use Rattle.fewest.proofs.Roles.{along, operand_before}
use Rattle.fewest.proofs.Works.{works, record_works}
use Rattle.asked.specs.Mark.{Marks, begun, Marked, Leads, by_step, by_test, by_rest, follows, tests, enters, Calm, MarksOn, MarkedOut, MarkedFrom}
use Rattle.asked.proofs.Following.{all_follows}
use Rattle.asked.proofs.Fair.{Fair, begun_fair, marks_on_fair}
use Rattle.asked.proofs.Marking.{marks_on_grows}
use Rattle.asked.proofs.Sums.{sum_total, sum_rows}

-- inside a list it does not matter what stands outside
inside : (l : List ℕ) (i d f : ℕ) → i < length l → get_or l i d ≡ get_or l i f
inside [] i d f h = absurd (omega arith)
inside (y ∷ l) zero d f h = refl
inside (y ∷ l) (suc i) d f h = inside l i d f (omega arith)

module _ {rs : List Rec} {rule : Expr} {L : Links} (x : Expression rs rule) (linked : Linked rule L) {s : Site} (ok : Within s)
    {g : Goal} {T : List ℕ} (numbers : Numbers s g rule (view T)) {M : Marks} (out : MarkedOut (along L s g) T rs L.first M) where
  -- nothing that a subexpression's work asks for is unmarked
  calm : (e : Expr) (K : Context) → plug e K ≡ rule → {w : Work} → Memᴰ w (works e) → Calm (along L s g) T w (last e) M
  calm e K p {w} i = out.calm (last e) w (node_record x e K p) (rw (record_works x linked e K p) i)

  -- where the work of a marked question leads, what follows is marked; an end outside the table counts as marked
  done_follows : (e : Expr) (K : Context) → plug e K ≡ rule → {w : Work} → Memᴰ w (works e) → {t u : ℕ} → u < terms → t < terms →
      Marked M (last e) t → Leads (along L s g) T (last e) t u w → Follows (view M.asked) (λ v. get_or M.ends v 1) e K u
  done_follows e K p i {t} {u} b c m d =
      let at = calm e K p i t c m in
      all_follows x.numbered linked {m = view M.asked} {ends = λ v. get_or M.ends v 1} {u = u} e K p (record {
        next = λ q n. at.asks q u b (follows d n);
        home = λ h. elim (dec_lt u (length M.ends)) [
          | yes l ↦ inside M.ends u 1 0 l ∙ at.arrives u l d h
          | no l ↦ get_or-eq_default M.ends 1 (omega arith)
        ];
      })

  -- Where nothing asked for is unmarked, what a mark asks is marked.
  pub marked_out_followed : {z : ℕ} → Marked M (last rule) z → Followed s z rule (view M.asked) (λ u. get_or M.ends u 1)
  unfolding Numbers
  marked_out_followed begins = record {
    begun = begins;
    by_step = λ r a l K p k t i u b h v. done_follows (step r a l) K p (Memᴰ.head refl) (among ok b (move_reaches v)) b h (by_step v);
    test_in = λ r a y K p k t i u b h v.
        (calm (tested r a y) K p (Memᴰ.head refl) t b h).asks (last y) i (among ok b (move_passes v))
        (tests (sym (operand_before x.numbered (tested r a y) K p)) v);
    by_test = λ r a y K p k t i u b h v w.
        let number = (fewest_holds s g r a y K i (numbers y (test r a K) p i (among ok b (move_passes v)))).1 w in
        done_follows (tested r a y) K p (Memᴰ.head refl) (among ok b (move_reaches v)) b h
        (by_test v (rw (operand_before x.numbered (tested r a y) K p) number));
    sequence_in = λ r a b K p t c h. (calm (sequence r a b) K p (Memᴰ.head refl) t c h).asks (last a) t c (enters refl refl);
    one_in = λ r a b K p t c h. (calm (choice r a b) K p (Memᴰ.head refl) t c h).asks (last a) t c (enters refl refl);
    other_in = λ r a b K p t c h. (calm (choice r a b) K p (Memᴰ.tail (Memᴰ.head refl)) t c h).asks (last b) t c (enters refl refl);
    round_in = λ r a K p t c h. (calm (star r a) K p (Memᴰ.head refl) t c h).asks (last a) t c (enters refl refl);
    round_empty = λ r a K p t c h v. done_follows (star r a) K p (Memᴰ.tail (Memᴰ.head refl)) c c h (by_rest refl v);
  }

-- The whole rule's record is the last one.
pub last_record : {rs : List Rec} {rule : Expr} → Expression rs rule → last rule ≡ length rs - 1
last_record {rule = rule} x = omega (arith, last_number 0 rule x.numbered, expression_long x)

-- to begin with, the whole rule's question at the start is marked
begins : {rs : List Rec} {rule : Expr} → Expression rs rule → length rs ≤ records → (z n : ℕ) → z < terms → Marked (begun (last rule) z n) (last rule) z
unfolding begun
begins {rule = rule} x few z n h =
    let row : last rule < records = omega (arith, node_record x rule whole refl) in
    view_set_same (replicate (records * terms) 0) (last rule) z 1 (omega (arith, length-replicate {A = ℕ} (records * terms) 0, place_below row h))

module _ {rs : List Rec} {rule : Expr} {L : Links} {s : Site} {g : Goal} {T : List ℕ} {z n : ℕ} {M : Marks} (ok : Within s)
    (x : Expression rs rule) (linked : Linked rule L) (few : length rs ≤ records) (numbers : Numbers s g rule (view T)) (start : z < terms)
    (marked : MarkedFrom (along L s g) T rs L.first z n M) where
  reached : MarksOn (along L s g) T rs L.first (begun (last rule) z n) M
  reached = rw (last_record x) marked.reached

  fair : Fair s z rule M
  fair = marks_on_fair x few linked ok numbers reached (begun_fair x few n start)

  followed : Followed s z rule (view M.asked) (λ u. get_or M.ends u 1)
  followed = marked_out_followed x linked ok numbers marked.out ((marks_on_grows reached).marked (last rule) z (begins x few z n start))

  -- The byte table holds 1 for each question asked and 0 elsewhere, unused rows included.
  pub marked_questions : (r t : ℕ) → t < terms → Tells (Asks s rule z (question r t)) (view M.asked r t)
  unfolding view
  marked_questions r t h = record { bit = fair.bits (place r t); exactly = marks_exact ok followed fair.justified start r t h }

  -- The sum of the byte table is the work figure.
  pub marked_figure : Figure s rule z (sum M.asked)
  marked_figure = rw (sum_rows M.asked fair.long) (count_table records terms (view M.asked) within (λ r t h. marked_questions r t))
    where
      within : (q : Question) → Asks s rule z q → (q.of < records) × (q.at < terms)
      within q a = (omega (arith, asks_record s q rule 0 z x.numbered a, expression_long x), among ok start (asks_term s q rule z a))

  -- The table of ends, where one is lent, holds 1 at each end and 0 elsewhere.
  pub marked_ends : length M.ends ≡ terms → (u : ℕ) → u < terms → Tells (Rel s rule z u) (get_or M.ends u 0)
  marked_ends long u h = record { bit = fair.end_bits u; exactly = rw (lent u h) (ends_exact ok followed arrived start u h) }
    where
      lent : (v : ℕ) → v < terms → get_or M.ends v 0 ≡ get_or M.ends v 1
      lent v b = inside M.ends v 0 1 (omega arith)

      arrived : Arrived s z rule (λ v. get_or M.ends v 1)
      arrived = record { related = λ v b m. fair.arrived.related v b (lent v b ∙ m) }

  -- Its sum is the number of ends.
  pub marked_ends_count : length M.ends ≡ terms → Count (Rel s rule z) (sum M.ends)
  marked_ends_count long =
      rw (sum_total M.ends) (rw long (count_same (count_told terms (λ u. get_or M.ends u 0) (marked_ends long))
      (λ u. (λ (h, v). v, λ v. (among ok start (related_reaches rule v), v)))))

-- The starts are read off the number table: the rule relates t to the end just where the rule's row has a number.
pub starts_numbered : (s : Site) (rule : Expr) (v : ℕ) (T : List ℕ) → Numbers s (end v) rule (view T) → (t : ℕ) → t < terms →
    (view T (last rule) t < none) ↔ Rel s rule t v
unfolding Numbers
starts_numbered s rule v T numbers t h = fewest_related s rule t v (numbers rule whole refl t h)
