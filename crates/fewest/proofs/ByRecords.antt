-- A record's row is worked by its works, one after the other, and the table by its records.
-- What each work leaves as it was stays so, so a sweep over all records that changes nothing leaves the table settled.
use Prim.Native.Nat.{ℕ, ◌-◌, ◌<◌, ◌≤◌}
use mathlib.Core.Path.{◌≡◌, refl}
use mathlib.Core.Logic.{⊎_elim}
use mathlib.Core.Bool.{Bool}
use mathlib.Core.List.Memᴰ
use mathlib.Core.List.{List, [], ◌∷◌, Memᴰ}
use native.Mathlib.Omega.{arith}
use lib.ListN.{length, get_or}
use Rattle.meaning.specs.Move.{Axis}
use Rattle.meaning.specs.Expression.{Rec, starring}
use Rattle.records.specs.declared.Label.{Label}
use Rattle.records.specs.declared.Label.TheVariants.{Any, Term, Test}
use Rattle.records.specs.declared.Step.{Step}
use Rattle.records.specs.declared.Record.{Record}
use Rattle.records.specs.declared.Record.TheVariants as kind
use Rattle.records.specs.Rules.{axis_meant, labelled, rec_of}
use Rattle.fewest.specs.Frame.{Frame}
use Rattle.fewest.specs.Offer.{Work, copying, resting, works_of, Lowers, Quiet, Settles, rest, work, Settled}
use Rattle.fewest.specs.Sweep.{sum, Swept}
use Rattle.fewest.specs.Work.{work_of, Rows, idle, worked, WorksSwept}
use Rattle.fewest.proofs.Sweeps.{Chain, swept_none, swept_then, swept_weaken, swept_lift}
use Rattle.fewest.proofs.Loops.{Seen}

module _ {A : Type 0} {R : Work → A → A → Type 0} where
  rows_then : {ws : List Work} {T U W : A} → Rows R ws T U → Rows R ws U W → Rows R ws T W
  rows_then p idle = p
  rows_then p (worked q i l) = worked (rows_then p q) i l

  rows_wider : {w : Work} {ws : List Work} {T U : A} → Rows R ws T U → Rows R (w ∷ ws) T U
  rows_wider idle = idle
  rows_wider (worked q i l) = worked (rows_wider q) (Memᴰ.tail i) l

-- What the works do, any chain of changes does that takes each of them.
pub rows_within : {A : Type 0} {R : Work → A → A → Type 0} (S : A → A → Type 0) {ws : List Work} → ((T : A) → S T T) →
    ((T U W : A) (w : Work) → S T U → Memᴰ w ws → R w U W → S T W) → {T U : A} → Rows R ws T U → S T U
rows_within S stays takes {T} idle = stays T
rows_within S stays takes {T} {U} (worked {U = W} {w = w} q i l) = takes T W U w (rows_within S stays takes q) i l

-- Works of any kind, each a chain of changes.
module _ {A : Type 0} {μ : A → ℕ} {R : Work → A → A → Type 0} (chain : (w : Work) → Chain μ (R w)) where
  rows_falls : {ws : List Work} {T U : A} → Rows R ws T U → μ U ≤ μ T
  rows_falls idle = omega arith
  rows_falls (worked {U = U} {W} {w} q i l) = omega (arith, rows_falls q, (chain w).falls U W l)

  rows_chain : {ws : List Work} → Chain μ (Rows R ws)
  rows_chain = record { stays = λ T. idle; joins = λ T U W. rows_then; falls = λ T U. rows_falls }

  -- no work leaves nothing to see
  works_none : {Q : Work → A → Type 0} {T : A} {was : Bool} → WorksSwept μ R Q [] T T was was
  works_none = swept_none rows_chain (λ w i. absurd (Memᴰ.not-nil i))

  -- one work, and after it the others
  works_more : {Q : Work → A → Type 0} {w : Work} {ws : List Work} {T U W : A} {was before now : Bool} → Swept μ (R w) (Q w) T U was before →
      WorksSwept μ R Q ws U W before now → WorksSwept μ R Q (w ∷ ws) T W was now
  works_more p q =
      swept_weaken (λ h v i. ⊎_elim (λ e. rw e h.0) (h.1 v) (Memᴰ.cases_cons i))
      (swept_then rows_chain (swept_lift (worked idle (Memᴰ.head refl)) p) (swept_lift rows_wider q))

  -- a step has one work, whatever its label
  step_swept : {Q : Work → A → Type 0} (a : Axis) (l : Label) (r f : ℕ) {T U : A} {was now : Bool} → Swept μ (R (work_of a l)) (Q (work_of a l)) T U was now →
      WorksSwept μ R Q (works_of (labelled a l) r f) T U was now
  step_swept a Any r f p = works_more p works_none
  step_swept a (Term n) r f p = works_more p works_none
  step_swept a Test r f p = works_more p works_none

  -- Each kind of record was swept where its works were.
  module _ {Q : Work → A → Type 0} {x : Record} (r f : ℕ) {T U : A} {was now : Bool} where
    pub by_step : {s : Step} → x ≡ kind.Step s →
        Swept μ (R (work_of (axis_meant s.axis) s.label)) (Q (work_of (axis_meant s.axis) s.label)) T U was now →
        WorksSwept μ R Q (works_of (rec_of x) r f) T U was now
    by_step {s} e p = rw e (step_swept (axis_meant s.axis) s.label r f p)

    pub by_sequence : x ≡ kind.Sequence → Swept μ (R (copying f)) (Q (copying f)) T U was now → WorksSwept μ R Q (works_of (rec_of x) r f) T U was now
    by_sequence e p = rw e (works_more p works_none)

    pub by_choice : {W : A} {before : Bool} → x ≡ kind.Choice → Swept μ (R (copying f)) (Q (copying f)) T W was before →
        Swept μ (R (copying (r - 1))) (Q (copying (r - 1))) W U before now → WorksSwept μ R Q (works_of (rec_of x) r f) T U was now
    by_choice e p q = rw e (works_more p (works_more q works_none))

    pub by_star : {W : A} {before : Bool} → x ≡ kind.Star → Swept μ (R (copying (r - 1))) (Q (copying (r - 1))) T W was before →
        Swept μ (R resting) (Q resting) W U before now → WorksSwept μ R Q (works_of (rec_of x) r f) T U was now
    by_star e p q = rw e (works_more p (works_more q works_none))

-- nothing that the works of record r offer is lower
abbrev pub RecordQuiet : Frame → List Rec → List ℕ → ℕ → List ℕ → Type 0
RecordQuiet F rs first r X = (w : Work) → Memᴰ w (works_of (get_or rs r starring) r (get_or first r 0)) → Quiet F w r X

module _ {F : Frame} {rs : List Rec} {first : List ℕ} where
  -- a turn: record r was swept
  pub record_swept : {x : Rec} {r : ℕ} {T U : List ℕ} {was now : Bool} → r < length rs → x ≡ get_or rs r starring →
      WorksSwept sum (λ w. Lowers F w r) (λ w. Quiet F w r) (works_of x r (get_or first r 0)) T U was now →
      Swept sum (Settles F rs first) (RecordQuiet F rs first r) T U was now
  record_swept h e p = swept_lift (rows_within (Settles F rs first) (λ T. rest) (λ T U W w q i l. work q h i l)) (rw e at p)

  -- Each record seen, the table is settled.
  pub all_swept : {k : ℕ} {T U : List ℕ} {was now : Bool} → length rs ≤ k →
      Seen sum (Settles F rs first) (RecordQuiet F rs first) k T U was now → Swept sum (Settles F rs first) (Settled F rs first) T U was now
  all_swept past p = swept_weaken (λ seen. record { quiet = λ r w h i. seen r (omega arith) w i }) p
