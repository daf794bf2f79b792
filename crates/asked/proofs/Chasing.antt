-- What the works of a record mark, the rule marks; and a served question stays answered, because marks only grow.
-- Where none waits, each marked question is served, so nothing asked for is unmarked.
use Prim.Native.Nat.{ℕ, ◌*◌, ◌-◌, ◌<◌}
use mathlib.Core.Path.{◌≡◌, refl, sym, subst, ◌∙◌}
use mathlib.Core.Bool.{true}
use mathlib.Core.Logic.{⊎_elim}
use mathlib.Core.List.Memᴰ
use mathlib.Core.List.{List, [], ◌∷◌, Memᴰ}
use native.Mathlib.Nat.{le_refl, le_trans}
use lib.Arith.{digits_lt}
use lib.ListN.{length, get_or, set}
use Rattle.meaning.specs.Limits.{terms, records}
use Rattle.meaning.specs.Move.{Axis}
use Rattle.meaning.specs.Expression.{Rec, starring}
use Rattle.records.specs.declared.Label.{Label}
use Rattle.records.specs.declared.Label.TheVariants.{Any, Term, Test}
use Rattle.records.specs.declared.Step.{Step}
use Rattle.records.specs.declared.Record.{Record}
use Rattle.records.specs.declared.Record.TheVariants as kind
use Rattle.records.specs.Rules.{axis_meant, labelled, rec_of, records_of}
use Rattle.fewest.specs.Frame.{Frame}
use Rattle.fewest.specs.Offer.{place, view, Work, copying, resting, works_of}
use Rattle.fewest.specs.Work.{work_of, Rows, idle, worked}
use Rattle.fewest.proofs.ByRecords.{rows_within}
use Rattle.fewest.proofs.Places.{one_place, place_below, stored}
use Rattle.asked.specs.Mark.{Marks, marks, Marking, CalmAt, MarksOn, rest, work, MarkedOut}
use Rattle.asked.specs.Serve.{markeds, NoneWaits, serveds, Kept, OneServed, TakenUp}
use Rattle.asked.specs.Chase.{WorkAsked, RecordAsked, Answered, Chased}
use Rattle.asked.proofs.Marking.{Grows, calm_at_grows, marking_grows, marks_on_then, marks_on_grows}
use Rattle.asked.proofs.Serving.{length-serveds, served_or_waits, one_fewer}

-- each of these works of record r was asked on at t
abbrev Works : Frame → List ℕ → ℕ → ℕ → List Work → Marks → Marks → Type 0
Works F T r t ws M N = Rows (λ w. Marking F T w r) ws M N × ((w : Work) → Memᴰ w ws → CalmAt F T w r t N)

module _ {F : Frame} {T : List ℕ} {r t : ℕ} where
  one_work : {w : Work} {M N : Marks} → WorkAsked F T w r t M N → Works F T r t (w ∷ []) M N
  one_work {N = N} (made, calm) = (worked idle (Memᴰ.head refl) made, λ v i. subst (λ x. CalmAt F T x r t N) (sym (Memᴰ.eq_of_singleton i)) calm)

  two_works : {w v : Work} {M N P : Marks} → WorkAsked F T w r t M N → WorkAsked F T v r t N P → Works F T r t (w ∷ (v ∷ [])) M P
  two_works {P = P} (made, calm) (more, last) = (
    worked (worked idle (Memᴰ.head refl) made) (Memᴰ.tail (Memᴰ.head refl)) more,
    λ x i. ⊎_elim (λ e. subst (λ y. CalmAt F T y r t P) (sym e) (calm_at_grows (marking_grows more) calm))
        (λ j. subst (λ y. CalmAt F T y r t P) (sym (Memᴰ.eq_of_singleton j)) last) (Memᴰ.cases_cons i),
  )

  -- Each kind of record, by its works.
  module _ (f : ℕ) {M N : Marks} where
    step_works : (a : Axis) (l : Label) → WorkAsked F T (work_of a l) r t M N → Works F T r t (works_of (labelled a l) r f) M N
    step_works a Any p = one_work p
    step_works a (Term n) p = one_work p
    step_works a Test p = one_work p

    pub asked_step : {x : Record} {s : Step} → x ≡ kind.Step s → WorkAsked F T (work_of (axis_meant s.axis) s.label) r t M N →
        Works F T r t (works_of (rec_of x) r f) M N
    asked_step {s = s} e p = rw e (step_works (axis_meant s.axis) s.label p)

    pub asked_sequence : {x : Record} → x ≡ kind.Sequence → WorkAsked F T (copying f) r t M N → Works F T r t (works_of (rec_of x) r f) M N
    asked_sequence e p = rw e (one_work p)

    pub asked_choice : {x : Record} {W : Marks} → x ≡ kind.Choice → WorkAsked F T (copying f) r t M W → WorkAsked F T (copying (r - 1)) r t W N →
        Works F T r t (works_of (rec_of x) r f) M N
    asked_choice e p q = rw e (two_works p q)

    pub asked_star : {x : Record} {W : Marks} → x ≡ kind.Star → WorkAsked F T (copying (r - 1)) r t M W → WorkAsked F T resting r t W N →
        Works F T r t (works_of (rec_of x) r f) M N
    asked_star e p q = rw e (two_works p q)

module _ {F : Frame} {T : List ℕ} {rs : List Rec} {first : List ℕ} where
  -- What the works of record r mark, the rule marks.
  pub record_reached : {M N : Marks} {x : Rec} {r : ℕ} → r < length rs → x ≡ get_or rs r starring →
      Rows (λ w. Marking F T w r) (works_of x r (get_or first r 0)) M N → MarksOn F T rs first M N
  record_reached h e p = rows_within (MarksOn F T rs first) (λ X. rest) (λ X Y Z w q i l. work q h i l) (rw e at p)

  -- A question that was taken up and asked on is answered, and the others are as they were.
  pub one_answered : {b d ends ends' : List ℕ} {r t : ℕ} → t < terms → place r t < length (serveds b) →
      serveds d ≡ set (serveds b) (place r t) 1 → Grows (marks (markeds b) ends) (marks (markeds d) ends') →
      ((w : Work) → Memᴰ w (works_of (get_or rs r starring) r (get_or first r 0)) → CalmAt F T w r t (marks (markeds d) ends')) →
      Answered F T rs first b ends → Answered F T rs first d ends'
  unfolding view
  one_answered {b} {r = r} {t} small inside served grows here before = record {
    each = λ q u h k s w i. ⊎_elim
        (λ (e, _). let (row, at) = one_place k small e in rw (row, at) (here w (rw (← row) i)))
        (λ e. calm_at_grows grows (before.each q u h k (sym e ∙ (rw served at s)) w i))
        (stored (serveds b) (place r t) 1 inside (place q u));
  }

  -- Where none waits, nothing asked for is unmarked.
  pub answered_out : {b ends : List ℕ} → Answered F T rs first b ends → NoneWaits b (length rs * terms) →
      MarkedOut F T rs first (marks (markeds b) ends)
  unfolding view
  answered_out {b} answered none = record {
    calm = λ r w h i t k m. ⊎_elim (λ s. answered.each r t h k s w i) (λ waits. absurd (none (place r t) (digits_lt h k) waits))
        (served_or_waits b (place r t) m);
  }

module _ {site : List ℕ} {n : ℕ} {rule up role first T : List ℕ} where
  -- The question of record r at t was taken up and asked on.
  pub one_chased : {b c d ends ends' : List ℕ} (x : Record) {r t : ℕ} → r < records → t < terms → r < length (records_of rule) →
      rec_of x ≡ get_or (records_of rule) r starring → TakenUp r t b c true →
      RecordAsked site n x (get_or first r 0) up role T r t (marks (markeds c) ends) (marks (markeds d) ends') → Kept c d →
      Chased site n rule up role first T b ends d ends' × OneServed r t b d
  one_chased {b} x {r} {t} row small below is taken asked kept =
      let one : OneServed r t b _ = record { waited = λ w. kept.served ∙ taken.served.waited w; left = λ w. kept.served ∙ taken.served.left w } in (
        record {
          reached = λ g. record_reached below is (rw taken.same at (asked g).0);
          answered = λ g. one_answered small (rw (length-serveds b) (place_below row small))
              (kept.served ∙ taken.served.waited (taken.waited refl)) (marks_on_grows {rs = records_of rule} {first = first} (record_reached below is (rw taken.same at (asked g).0))) (λ w i. (asked g).1 w (rw is i));
          long = kept.long ∙ taken.long;
          fewer = one_fewer one (place_below row small);
          below = λ i h. kept.below i h ∙ taken.below i h;
        },
        one,
      )

  -- Nothing done, and one thing after another.
  pub chased_none : {b ends : List ℕ} → Chased site n rule up role first T b ends b ends
  chased_none = record { reached = λ g. rest; answered = λ g before. before; long = refl; fewer = le_refl _; below = λ i h. refl }

  pub chased_then : {b c d ends more most : List ℕ} → Chased site n rule up role first T b ends c more →
      Chased site n rule up role first T c more d most → Chased site n rule up role first T b ends d most
  chased_then p q = record {
    reached = λ g. marks_on_then (p.reached g) (q.reached g);
    answered = λ g before. q.answered g (p.answered g before);
    long = q.long ∙ p.long;
    fewer = le_trans q.fewer p.fewer;
    below = λ i h. q.below i h ∙ p.below i h;
  }
