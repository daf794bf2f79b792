-- Lowering along offers: nothing was done, one thing after another, the works of a record, the one work of a step.
-- The functions of the levels promise no more than that, so these few laws serve them all.
use Prim.Native.Nat.{ℕ, ◌+◌, ◌-◌, ◌<◌}
use mathlib.Core.Path.{◌≡◌, refl, ◌∙◌, ap, sym, subst}
use mathlib.Core.Bool.{Bool, true}
use mathlib.Core.List.Memᴰ
use mathlib.Core.List.{List}
use lib.ListN.{length, get_or}
use Rattle.meaning.specs.Limits.{terms}
use Rattle.meaning.specs.Move.{Axis, self, only}
use Rattle.meaning.specs.Expression.{starring}
use Rattle.meaning.specs.Fewest.{Goal}
use Rattle.records.specs.declared.Label.{Label}
use Rattle.records.specs.declared.Label.TheVariants.{Any, Term, Test}
use Rattle.records.specs.declared.Step.{Step}
use Rattle.records.specs.declared.Record.{Record}
use Rattle.records.specs.declared.Record.TheVariants as kind
use Rattle.records.specs.Sites.{site_of}
use Rattle.records.specs.Rules.{axis_meant, labelled, rec_of, record_at, records_of}
use Rattle.fewest.specs.declared.look.Moved.{Moved}
use Rattle.fewest.specs.Pairs.{pairs}
use Rattle.fewest.specs.Frame.{Frame, frame}
use Rattle.fewest.specs.Offer.{Work, stepping, copying, works_of, Lowers, Settles, rest, work}
use Rattle.fewest.specs.Table.{Lowered}
use Rattle.fewest.specs.Work.{Least, work_of, allowing, Sits, Rows, idle, worked, Ready, SettledOver}
use Rattle.fewest.proofs.Sweeps.{settles_then}
use Rattle.fewest.proofs.Looks.{looked, step_offer}
use Rattle.fewest.proofs.ByRecords.{rows_within}
use Rattle.levels.specs.Levelled.{Reached, RecordWorked, Stepping, Hinted}

module _ {b rule up role first : List ℕ} {n : ℕ} {g : Goal} where
  -- nothing was done
  pub hinted_none : {N : List ℕ} → Hinted b n rule up role first g N N
  hinted_none = record { long = refl; reached = rest }

  -- one after another
  pub hinted_then : {N M L : List ℕ} → Hinted b n rule up role first g N M → Hinted b n rule up role first g M L →
      Hinted b n rule up role first g N L
  hinted_then p q = record { long = q.long ∙ p.long; reached = settles_then p.reached q.reached }

  -- what settles the table that was reached settles the one before
  pub hinted_settled : {N M T : List ℕ} → Hinted b n rule up role first g N M → SettledOver b n rule up role first g (pairs M) T →
      SettledOver b n rule up role first g (pairs N) T
  hinted_settled p q = record { reached = settles_then p.reached q.reached; settled = q.settled }

-- the works of a record that were tried, by its kind
module _ {F : Frame} {x : Record} (r f : ℕ) {T U : List ℕ} where
  pub sequence_worked : x ≡ kind.Sequence → Lowers F (copying f) r T U → Rows (λ w. Lowers F w r) (works_of (rec_of x) r f) T U
  sequence_worked e p = rw e (worked idle (Memᴰ.head refl) p)

  pub choice_worked : {W : List ℕ} → x ≡ kind.Choice → Lowers F (copying f) r T W → Lowers F (copying (r - 1)) r W U →
      Rows (λ w. Lowers F w r) (works_of (rec_of x) r f) T U
  choice_worked e p q = rw e (worked (worked idle (Memᴰ.head refl) p) (Memᴰ.tail (Memᴰ.head refl)) q)

  pub star_worked : x ≡ kind.Star → Rows (λ w. Lowers F w r) (works_of starring r 0) T U → Rows (λ w. Lowers F w r) (works_of (rec_of x) r f) T U
  star_worked e p = rw e p

-- a step has one work, whatever its label
step_worked : {A : Type 0} {R : Work → A → A → Type 0} (a : Axis) (l : Label) (r f : ℕ) {T U : A} → R (work_of a l) T U →
    Rows R (works_of (labelled a l) r f) T U
step_worked a Any r f p = worked idle (Memᴰ.head refl) p
step_worked a (Term n) r f p = worked idle (Memᴰ.head refl) p
step_worked a Test r f p = worked idle (Memᴰ.head refl) p

-- A move that the label lets pass was tried.
pub reached_by : {up role : List ℕ} {g : Goal} {r v : ℕ} {T' : List ℕ} {was now : Bool} (m : Moved) (l : Label) (T : List ℕ) →
    allowing T l r m.middle ≡ true → m.from < terms → Least up role g T r m.to v → Lowered r m.from (v + 1) T T' was now →
    Reached m l up role g r T T'
reached_by m l T ok b least low s a k move = (looked {Q = λ X. Unit} b (step_offer l move ok (least.among s)) low (λ h. tt)).reached

-- the work of a named self is that of its name
pub name_worked : {F : Frame} {l : Label} {n r : ℕ} {T U : List ℕ} → l ≡ Term n → Lowers F (stepping self (only n)) r T U →
    Lowers F (work_of self l) r T U
name_worked e p = rw e p

module _ {b rule starts up role first : List ℕ} {n count : ℕ} (ready : Ready b n rule starts count up role first) {r : ℕ}
    (here : r < count) where
  -- the works of record r, as it is read at its place
  pub hinted_works : {g : Goal} {x : Record} {N M : List ℕ} → x ≡ record_at rule (get_or starts r 0) → length M ≡ length N →
      RecordWorked (frame (site_of b n) up role g) x (get_or first r 0) r (pairs N) (pairs M) → Hinted b n rule up role first g N M
  hinted_works {g} e long p = record {
    long = long;
    reached = rows_within (Settles (frame (site_of b n) up role g) (records_of rule) first) (λ T. rest)
        (λ T U W w q i l. work q (rw (← ready.counted) here) i l) (rw (ap rec_of e ∙ ready.reads r here) at p);
  }

  -- the one work of a step
  pub hinted_step : {g : Goal} (x : Step) {N M : List ℕ} → Stepping rule starts r x → length M ≡ length N →
      Lowers (frame (site_of b n) up role g) (work_of (axis_meant x.axis) x.label) r (pairs N) (pairs M) →
      Hinted b n rule up role first g N M
  unfolding Stepping
  hinted_step x e long p = hinted_works (sym e) long (step_worked (axis_meant x.axis) x.label r (get_or first r 0) p)

  -- a step sits where it is read
  pub stepping_sits : (x : Step) → Stepping rule starts r x → Sits (kind.Step x) r
  unfolding Stepping
  stepping_sits x e = subst (λ y. Sits y r) e (ready.sits r here)
