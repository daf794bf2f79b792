-- What an open record leads to, record by record: a sequence to its first operand, a choice to both, a star to its operand
-- and, where the term is a word, to what comes after the star. And what can be entered before any other record.
use Prim.Native.Nat.{ℕ, ◌-◌, ◌<◌}
use mathlib.Core.Path.{◌≡◌}
use mathlib.Core.Logic.{◌≢◌, ◌⊎◌, inl, inr, ⊎_elim}
use mathlib.Core.Bool.{Bool, true, false}
use mathlib.Core.List.{List}
use native.Mathlib.Omega.{arith}
use lib.ListN.{length, get_or}
use Rattle.std.specs.Prelude.{Some, None}
use Rattle.meaning.specs.Expression.{Rec, joining, choosing, starring}
use Rattle.meaning.specs.Move.{Axis}
use Rattle.records.specs.declared.Label.{Label}
use Rattle.records.specs.declared.Label.TheVariants.{Any, Term, Test}
use Rattle.records.specs.Rules.{labelled}
use Rattle.fewest.specs.Next.{Next}
use Rattle.path.specs.Flags.{Open, Opening, linked, Begins, begin, after, LeadsBy, to_first, to_one, to_other, to_round, past, Led}
use Rattle.path.proofs.Opening.{opening_none, opening_as, opening_then}

-- The beginning: the whole rule's record, if there is one; or what comes next after a step.
module _ {up role : List ℕ} {count : ℕ} {X : List Bool} where
  pub begin_none : count ≡ 0 → Opening (Begins up role count None) X X false false
  begin_none e = opening_none (λ b p. absurd (none e p))
    where
      none : {b : ℕ} → count ≡ 0 → Begins up role count None b → ⊥
      none e (begin q) = omega arith

  pub begin_whole : {Y : List Bool} {now : Bool} → count ≢ 0 → Opening (λ b. b ≡ count - 1) X Y false now → Opening (Begins up role count None) X Y false now
  begin_whole n p = opening_as (λ b e. begin (omega arith)) (λ b. back) p
    where
      back : {b : ℕ} → Begins up role count None b → b ≡ count - 1
      back (begin e) = omega arith

  pub begin_after : {r : ℕ} {Y : List Bool} {now : Bool} → Opening (Next (linked up role) r) X Y false now → Opening (Begins up role count (Some r)) X Y false now
  begin_after {r} p = opening_as (λ b. after) (λ b. back) p
    where
      back : {b : ℕ} → Begins up role count (Some r) b → Next (linked up role) r b
      back (after n) = n

-- What a record leads to by its kind.
module _ {word : Bool} {N : ℕ → Type 0} {r f : ℕ} {X Y : List Bool} {was now : Bool} where
  pub lead_sequence : Opening (λ b. b ≡ f) X Y was now → Opening (λ b. LeadsBy word N r f b joining) X Y was now
  lead_sequence p = opening_as (λ b. to_first) (λ b. back) p
    where
      back : {b : ℕ} → LeadsBy word N r f b joining → b ≡ f
      back (to_first e) = e

  pub lead_choice : {Z : List Bool} {then : Bool} → Opening (λ b. b ≡ f) X Y was now → Opening (λ b. b ≡ r - 1) Y Z now then →
      Opening (λ b. LeadsBy word N r f b choosing) X Z was then
  lead_choice p q = opening_as (λ b. ⊎_elim to_one to_other) (λ b. back) (opening_then p q)
    where
      back : {b : ℕ} → LeadsBy word N r f b choosing → (b ≡ f) ⊎ (b ≡ r - 1)
      back (to_one e) = inl e
      back (to_other e) = inr e

  pub lead_star : word ≡ false → Opening (λ b. b ≡ r - 1) X Y was now → Opening (λ b. LeadsBy word N r f b starring) X Y was now
  lead_star w p = opening_as (λ b. to_round) (λ b. back) p
    where
      back : {b : ℕ} → LeadsBy word N r f b starring → b ≡ r - 1
      back (to_round e) = e
      back (past e n) = let z : ◌≡◌ {A = ℕ} 0 1 = cc in absurd (omega arith)

  pub lead_past : {Z : List Bool} {then : Bool} → word ≡ true → Opening (λ b. b ≡ r - 1) X Y was now → Opening N Y Z now then →
      Opening (λ b. LeadsBy word N r f b starring) X Z was then
  lead_past w p q = opening_as (λ b. ⊎_elim to_round (past w)) (λ b. back) (opening_then p q)
    where
      back : {b : ℕ} → LeadsBy word N r f b starring → (b ≡ r - 1) ⊎ N b
      back (to_round e) = inl e
      back (past e n) = inr n

nowhere : {word : Bool} {N : ℕ → Type 0} {r f b : ℕ} (a : Axis) (l : Label) → LeadsBy word N r f b (labelled a l) → ⊥
nowhere a Any q = elim q [ ]
nowhere a (Term n) q = elim q [ ]
nowhere a Test q = elim q [ ]

pub lead_step : {word : Bool} {N : ℕ → Type 0} {r f : ℕ} {X : List Bool} {was : Bool} (a : Axis) (l : Label) →
    Opening (λ b. LeadsBy word N r f b (labelled a l)) X X was was
lead_step a l = opening_none (λ b q. absurd (nowhere a l q))

-- A record that is open opens what it leads to; one that is shut opens nothing.
module _ {up role : List ℕ} {rs : List Rec} {first : List ℕ} {word : Bool} {r : ℕ} {X : List Bool} {was : Bool} where
  pub led_open : {Y : List Bool} {now : Bool} (x : Rec) → x ≡ get_or rs r starring → r < length rs → Open X r →
      Opening (λ b. LeadsBy word (Next (linked up role) r) r (get_or first r 0) b x) X Y was now → Led up role rs first word r X Y was now
  led_open x e h o p = opening_as (λ b q. (o, record { inside = h; by = rw e at q })) (λ b q. rw e q.1.by) p

  pub led_shut : get_or X r false ≡ true → Led up role rs first word r X X was was
  led_shut n = opening_none (λ b q. let c = q.0.clear in let z : ◌≡◌ {A = ℕ} 0 1 = cc in absurd (omega arith))
