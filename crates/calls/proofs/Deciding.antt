-- How a decision comes to its answer: what the number at the start tells of the pair, the path written by the numbers, and the
-- tables once both are filled make each case of the promise. The laws hold for either form.
use Prim.Native.Nat.{ℕ, ◌+◌, ◌*◌, ◌-◌, ◌<◌, ◌≤◌}
use mathlib.Core.Path.{◌≡◌, refl, subst}
use mathlib.Core.List.{List, [], ◌∷◌, ◌++◌}
use mathlib.Core.Bool.{true, false}
use native.Mathlib.Omega.{arith}
use lib.ListN.{length}
use lib.Dec.{eqb, ltb}
use borrow.Author.Tests.{eqb-true, eqb-false, ltb-true, ltb-false}
use Rattle.std.specs.Prelude.{Result, Ok, Err}
use Rattle.meaning.specs.Limits.{terms, records, none}
use Rattle.meaning.specs.Site.{Site}
use Rattle.meaning.specs.Expression.{Expr, Expression, whole}
use Rattle.meaning.specs.Path.{Conforms}
use Rattle.meaning.specs.Fewest.{Goal, end, entered, Way, Fewest, attained, never}
use Rattle.meaning.proofs.Greedy.{shown_conforms}
use Rattle.meaning.proofs.Ways.{way_conforms, fewest_related}
use Rattle.records.specs.declared.Refusal.{Refusal}
use Rattle.records.specs.declared.Reason.TheVariants.{TableLength, Room}
use Rattle.records.specs.Sites.{site_of}
use Rattle.records.specs.Rules.{records_of, refusal}
use Rattle.records.proofs.Tests.{by_test}
use Rattle.fewest.specs.Frame.{Links}
use Rattle.fewest.specs.Offer.{view}
use Rattle.fewest.specs.Pairs.{pairs}
use Rattle.fewest.specs.Sweep.{sum}
use Rattle.asked.specs.Mark.{marks}
use Rattle.asked.specs.Seek.{Bits, MarkedOver}
use Rattle.calls.specs.declared.Answer.{Answer}
use Rattle.calls.specs.declared.query.Query.{Query}
use Rattle.calls.specs.Admission.{starting, ending, by_length, Admits}
use Rattle.calls.specs.Promise.{Form, length_in, Fits, RoomFits, Filled, Decided, refused, no, yes, no_room}
use Rattle.calls.specs.Given.{Given}
use Rattle.calls.specs.Inner.{TurnedAway, SoundQuery, Numbered, Evaluated, Displayed, lent_as, verdict}
use Rattle.calls.specs.Written.{StepsOf, Walkable, Roomy}
use Rattle.calls.proofs.Admits.{turned_refuses, read_expression, read_admits}
use Rattle.calls.proofs.Evaluation.{filled_as, numbered_known, numbered_steps, evaluated_figure, evaluated_bits, evaluated_filled}

-- the fewest steps of a way through the rule to the query's end are the fewest of a conforming path
fewest_conforms : (s : Site) (e : Expr) (z v : ℕ) {k : ℕ} → Fewest (Way s (end v) (entered e whole z)) k → Fewest (λ q. Conforms s e z q v) k
fewest_conforms s e z v (attained p w long some least) =
    attained p ((way_conforms s e z p v).0 w) long some (λ q h. least q ((way_conforms s e z q v).1 h))
fewest_conforms s e z v (never eq all) = never eq (λ p h. all p ((way_conforms s e z p v).1 h))

-- no table of ends is lent, so there are no ends
pub no_ends : {s r up role first : List ℕ} {n : ℕ} {g : Goal} {z k : ℕ} {asked : List ℕ} (numbers ends : List ℕ) → length ends ≡ k → k ≡ 0 →
    Numbered s n r up role first g (pairs numbers) → MarkedOver s n r up role first (pairs numbers) z k (marks asked ends) →
    Evaluated s n r up role first g z 0 asked numbers []
no_ends numbers [] long none settled marked = record { settled = settled; marked = rw none at marked }
no_ends numbers (x ∷ ends) long none settled marked = absurd (omega arith)

-- nor does what stands behind them change
pub none_before : (ends room : List ℕ) → length ends ≡ 0 → ends ++ room ≡ room
none_before [] room none = refl
none_before (x ∷ ends) room none = absurd (omega arith)

-- A room that holds some steps holds fewer.
pub roomy_less : {f : Form} {m n : ℕ} {room : List ℕ} → Roomy f m room → n ≤ m → Roomy f n room
roomy_less roomy less = record { numbers = roomy.numbers; long = roomy.long; enough = omega (arith, roomy.enough) }

-- what the number at the start tells
module _ {s r : List ℕ} {n c : ℕ} {starts : List ℕ} {L : Links} (given : Given s r n c starts L) {g : Goal} {T : List ℕ}
    (S : Numbered s n r L.up L.role L.first g T) {z k : ℕ} (start : z < terms) (steps : k ≡ view T (c - 1) z) where
  steps_of : {e : Expr} → Expression (records_of r) e → StepsOf (records_of r) L (site_of s n) g T z k e
  steps_of x = record { known = numbered_known given x S; fewest = rw steps (numbered_steps given x S start) }

  -- Where the start has a number, a path of so many steps can be walked.
  pub numbered_walkable : k < none → Walkable (records_of r) L (site_of s n) g T z k
  numbered_walkable some = let (e, x) = read_expression given.read in record { rule = e; steps = steps_of x; some = some }

module _ {s r : List ℕ} {n c : ℕ} {starts : List ℕ} {L : Links} (given : Given s r n c starts L) {z v : ℕ} {asked numbers ends : List ℕ}
    (E : Evaluated s n r L.up L.role L.first (end v) z 0 asked numbers ends) (start : z < terms) where
  -- what was marked can be counted
  pub finished_bits : Bits asked
  finished_bits = let (e, x) = read_expression given.read in (evaluated_bits given x E start).0

  -- The answers, for a table of numbers and a room that are lent in this form:
  module _ (f : Form) (room : List ℕ) {a b : List ℕ} (fit : Fits f a b) (fits : RoomFits f room) (stop : v < terms)
      (long : length numbers ≡ records * terms + records * terms) where
    -- the call answers for the rule's expression,
    admits : (e : Expr) × Admits (Fits f a b × RoomFits f room) s r (starting z ∷ (ending v ∷ [])) n e
    admits = let both : Fits f a b × RoomFits f room = (fit, fits) in read_admits both given.read start stop

    -- for which the tables are filled,
    filled : {e : Expr} → Expression (records_of r) e → Filled f (site_of s n) e z (end v) asked (lent_as f numbers)
    filled x = filled_as f (evaluated_filled given x E start long)

    -- and the path was tried.
    module _ {most k : ℕ} {room' : List ℕ} (shown : Displayed f s n r c L (end v) (pairs numbers) z most room room' k) where
      fewest : {e : Expr} → Expression (records_of r) e → StepsOf (records_of r) L (site_of s n) (end v) (pairs numbers) z k e
      fewest = steps_of given E.settled start shown.steps

      abbrev Left : Result Answer Refusal → Type 0
      Left = Decided f s r z v a b room asked (lent_as f numbers) room'

      -- Where the start has no number, the rule does not relate the pair.
      left_no : k ≡ none → Left (Ok (record { yes = false; figure = sum asked; steps = 0 }))
      left_no same =
          let (e, p) = admits in
          let x = p.expression in
          no p (filled x) (evaluated_figure given x E start)
          (λ h. let some = (fewest_related (site_of s n) e z v (fewest x).fewest).1 h in omega arith) (shown.unrelated same)

      -- Where it has one that the room does not hold, the room is kept.
      left_no_room : k < none → most < k → length room < length_in f (3 * k) → Left (Err (refusal Room k))
      left_no_room some over short =
          let (e, p) = admits in
          let x = p.expression in
          no_room p (filled x) (fewest_conforms (site_of s n) e z v (fewest x).fewest) some short (shown.too_long over)

      -- Else the path is written.
      left_yes : k < none → k ≤ most → Left (Ok (record { yes = true; figure = sum asked; steps = k }))
      left_yes some held =
          let (e, p) = admits in
          let x = p.expression in
          let path = shown.written some held in
          subst (λ (i : ℕ). Left (Ok (record { yes = true; figure = sum asked; steps = i }))) path.long
          (yes p (filled x) (evaluated_figure given x E start) (shown_conforms (site_of s n) e z v (path.shown e (fewest x))) path.fits path.fills)

      -- So the decision by the steps and the figure is the one that is due.
      pub finished : ((i : ℕ) → most < i → length room < length_in f (3 * i)) → Left (verdict k most (sum asked))
      unfolding verdict
      finished beyond =
          by_test Left (eqb k none) (λ q. left_no (eqb-true k none q)) λ q.
          let apart = eqb-false k none q in
          let bound = shown.bounded in
          let some : k < none = omega arith in
          by_test Left (ltb most k) (λ over. let h = ltb-true most k over in left_no_room some h (beyond k h))
          (λ held. left_yes some (ltb-false most k held))

module _ (f : Form) {s r : List ℕ} {z v : ℕ} {asked numbers room : List ℕ} where
  -- A length that is wrong is refused;
  pub decided_short : (Fits f asked numbers × RoomFits f room → ⊥) →
      Decided f s r z v asked numbers room asked numbers room (Err (refusal TableLength 0))
  decided_short wrong = refused (by_length wrong) refl refl refl

  -- what is turned away is refused;
  pub decided_turned : {x : Refusal} → Fits f asked numbers × RoomFits f room → TurnedAway s r z v x →
      Decided f s r z v asked numbers room asked numbers room (Err x)
  decided_turned fits away = refused (turned_refuses fits away) refl refl refl

  -- and the pair that was admitted is the pair asked for.
  pub decided_query : {asked' numbers' room' : List ℕ} {d : Result Answer Refusal} {q : Query} → SoundQuery s r z v q →
      Decided f q.site.bytes.now q.rule.now q.start q.end asked numbers room asked' numbers' room' d →
      Decided f s r z v asked numbers room asked' numbers' room' d
  decided_query sound decided = rw (sound.site, sound.rule, sound.from, sound.to) at decided
