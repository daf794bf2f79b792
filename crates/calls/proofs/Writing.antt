-- A path written step by step: how the writing begins, goes on and ends, in either form.
-- What is written is what the walk by the steps picked has done, so at the end it is the path shown.
use Prim.Native.Nat.{ℕ, ◌+◌, ◌*◌, ◌-◌, ◌<◌, ◌≤◌}
use mathlib.Core.Path.{◌≡◌, refl, ◌∙◌}
use mathlib.Core.Logic.{◌⊎◌, inl, inr}
use mathlib.Core.List.{List, [], ◌∷◌, ◌++◌}
use native.Mathlib.Omega.{arith}
use lib.ListN.{length, length-append}
use Rattle.std.specs.Prelude.{Option, Some, None}
use Rattle.meaning.specs.Limits.{terms, triples, records, none}
use Rattle.meaning.specs.Site.{Site}
use Rattle.meaning.specs.Move.{Axis, Label, Move, staying, going, coming}
use Rattle.meaning.specs.Expression.{Rec}
use Rattle.meaning.specs.Path.{Path, taken}
use Rattle.meaning.specs.Fewest.{Goal}
use Rattle.records.specs.Sites.{site_of}
use Rattle.records.specs.Rules.{records_of}
use Rattle.records.proofs.Sites.{length-site_of}
use Rattle.fewest.specs.Frame.{Links}
use Rattle.fewest.specs.Frame.{Frame}
use Rattle.fewest.specs.Work.{Ready}
use Rattle.fewest.proofs.Roles.{along}
use Rattle.path.specs.declared.Taken.{Taken}
use Rattle.path.specs.Pick.{Carries, by_step, by_test, Picked}
use Rattle.path.specs.Flags.{Placed}
use Rattle.path.specs.Walking.{Known, Walking, Walked, begun, more}
use Rattle.path.proofs.Picking.{walking_record, walking_step, walking_something, walking_end, walked_walking}
use Rattle.calls.specs.Tables.{written}
use Rattle.calls.specs.Promise.{Form, as_words, as_bytes, numbers_of, lent, spread}
use Rattle.calls.specs.Written.{front, Small, Walkable, Roomy, Slice, StepPut, PathWritten}
use Rattle.calls.proofs.Fronts.{front_step, lent_fits, numbers_long, lent_front}

-- what stays as it is while a path of n steps from z is written
pub record Kept (f : Form) (rs : List Rec) (L : Links) (s : Site) (g : Goal) (T : List ℕ) (z n : ℕ) (room : List ℕ) : Type 0 where
  pub few : length rs ≤ records
  pub short : length s ≤ triples
  pub start : z < terms
  pub roomy : Roomy f n room
  pub can : Walkable rs L s g T z n

-- the numbers of the first i steps fill the front of the room, and the walk along them stands so at t
pub record Writing (f : Form) (rs : List Rec) (L : Links) (s : Site) (g : Goal) (T : List ℕ) (z n : ℕ) (room room' : List ℕ) (x : Option ℕ) (t i : ℕ) : Type 0 where
  pub kept : Kept f rs L s g T z n room
  pub done : Path
  pub left : ℕ
  pub walked : Walked (along L s g) T rs L.first z n done x t left
  pub count : length done ≡ i
  pub fills : numbers_of f room' ≡ front (written done) (numbers_of f room)
  pub long : length room' ≡ length room
  pub slices : ((i ≡ 0) × (room' ≡ room)) ⊎ (Slice f room × Slice f room')

-- Before the first step nothing is written.
pub writing_begin : {site rule starts up role first : List ℕ} {k count : ℕ} → Ready site k rule starts count up role first →
    {f : Form} {L : Links} {g : Goal} {T : List ℕ} {z n : ℕ} {room : List ℕ} → z < terms → Roomy f n room →
    Walkable (records_of rule) L (site_of site k) g T z n → Writing f (records_of rule) L (site_of site k) g T z n room room None z 0
writing_begin {site} {k = k} ready {n = n} start roomy can = record {
  kept = record {
    few = omega (arith, ready.counted, ready.few);
    short = omega (arith, length-site_of site k, ready.good.few);
    start = start;
    roomy = roomy;
    can = can;
  };
  done = [];
  left = n;
  walked = begun;
  count = refl;
  fills = refl;
  long = refl;
  slices = inl (refl, refl);
}

-- a path of no steps is written where nothing is
no_steps : (f : Form) (p : Path) (room : List ℕ) → length p ≡ 0 → front (lent f (written p)) room ≡ room
unfolding spread
no_steps as_words [] room e = refl
no_steps as_bytes [] room e = refl
no_steps as_words (x ∷ p) room e = absurd (omega arith)
no_steps as_bytes (x ∷ p) room e = absurd (omega arith)

-- a move is by one of the site's triples, or by none
move_number : {s : Site} {a : Axis} {l : Label} {k t m u : ℕ} → Move s a l k t m u → (k < length s) ⊎ (k ≡ none)
move_number (staying x) = inr x.number
move_number (going x allowed) = inl x.below
move_number (coming x allowed) = inl x.below

carries_number : {F : Frame} {T : List ℕ} {rs : List Rec} {r k t u : ℕ} → Carries F T rs r k t u → (k < length F.site) ⊎ (k ≡ none)
carries_number (by_step q move) = move_number move
carries_number (by_test q move holds) = move_number move

module _ {f : Form} {rs : List Rec} {L : Links} {s : Site} {g : Goal} {T : List ℕ} {z n : ℕ} {room room' : List ℕ} {x : Option ℕ} {t i : ℕ}
    (w : Writing f rs L s g T z n room room' x t i) where
  known : Known rs w.kept.can.rule L s g T
  known = w.kept.can.steps.known

  walking : Walking s g w.kept.can.rule z n w.done x t w.left
  walking = walked_walking known w.kept.start w.kept.can.steps.fewest w.kept.can.some w.walked

  -- The walk stands at a term, at its beginning or after one of the records.
  pub writing_term : t < terms
  writing_term = walking.below

  pub writing_placed : Placed x
  writing_placed = placed x walking
    where
      placed : (y : Option ℕ) → Walking s g w.kept.can.rule z n w.done y t w.left → Placed y
      placed None v = tt
      placed (Some r) v = omega (arith, walking_record known v, w.kept.few)

  -- With all steps written, the path shown is.
  pub writing_end : n ≤ i → PathWritten f rs L s g T z n room room'
  writing_end h =
      let all : w.left ≡ 0 = omega (arith, walking.count, w.count) in
      let long : length w.done ≡ n = omega (arith, walking.count, w.count) in
      let roomy = w.kept.roomy in
      record {
        path = w.done;
        long = long;
        shown = λ e steps. walking_end (walked_walking steps.known w.kept.start steps.fewest w.kept.can.some w.walked) all;
        fits = lent_fits f w.done room roomy.long (omega (arith, roomy.enough));
        fills = elim w.slices [
          | inl (none, same) ↦ rw (no_steps f w.done room (omega (arith, w.count, none))) same
          | inr (before, after) ↦ lent_front f roomy.numbers (written w.done) room room' roomy.long (w.long ∙ roomy.long) before after w.fills
        ];
      }

  module _ (h : i < n) where
    -- one is taken next, and the others are left after it
    next_left : w.left ≡ n - i - 1 + 1
    next_left = omega (arith, walking.count, w.count)

    -- The room holds one more step,
    pub writing_room : Roomy f (i + 1) room'
    writing_room =
        let roomy = w.kept.roomy in
        record { numbers = roomy.numbers; long = w.long ∙ roomy.long; enough = omega (arith, roomy.enough) }

    module _ {p : Option Taken} (picked : Picked (along L s g) T rs L.first x t (n - i - 1) p) where
      -- and one is picked.
      pub writing_something : p ≡ None → ⊥
      writing_something e = walking_something known walking next_left (rw e at picked)

      module _ {y : Taken} (e : p ≡ Some y) where
        step : Picked (along L s g) T rs L.first x t (n - i - 1) (Some y)
        step = rw e at picked

        onward : Walking s g w.kept.can.rule z n (w.done ++ (taken y.by y.over y.to ∷ [])) (Some y.by) y.to (n - i - 1)
        onward = walking_step known walking next_left step

        -- Its numbers fit 16 bits,
        pub writing_small : Small y
        unfolding terms triples records none
        writing_small = record {
          by = omega (arith, walking_record known onward, w.kept.few);
          over = elim (carries_number step.0.carries) [ inl below ↦ omega (arith, w.kept.short) | inr same ↦ omega arith ];
          to = omega (arith, onward.below);
        }

        -- and written behind the others they make the front longer.
        pub writing_step : {room'' : List ℕ} → StepPut f i y room' room'' → Writing f rs L s g T z n room room'' (Some y.by) y.to (i + 1)
        writing_step put =
            let roomy = w.kept.roomy in
            let holds : 3 * i + 3 ≤ length (numbers_of f room) = omega (arith, roomy.enough, numbers_long f roomy.numbers room roomy.long) in
            record {
              kept = w.kept;
              done = w.done ++ (taken y.by y.over y.to ∷ []);
              left = n - i - 1;
              walked = more w.walked next_left step;
              count = rw length-append (omega (arith, w.count));
              fills = front_step w.done y (numbers_of f room) w.count holds w.fills put.stored;
              long = put.long ∙ w.long;
              slices = inr (elim w.slices [ inl (none, same) ↦ rw same at put.before | inr (before, after) ↦ before ], put.after);
            }
