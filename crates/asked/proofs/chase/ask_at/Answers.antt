use mathlib.Core.Path.{refl}
use mathlib.Core.Logic.{◌⊎◌, inl, inr}
use native.Mathlib.Omega.{arith}
use Rattle.meaning.specs.Fewest.{anywhere}
use Rattle.fewest.proofs.Keeping.{threads_kept}
use Rattle.fewest.proofs.Places.{place_below}
use Rattle.asked.proofs.Marking.{marks_on_bits}
use Rattle.asked.proofs.Serving.{turned}
use Rattle.asked.proofs.Chasing.{chased_none, chased_then}
use Rattle.fewest.specs.Offer.{place}
use Rattle.asked.specs.Serve.{Waits, Fewer}
use Rattle.asked.specs.Task.{ChasedIn}
use Rattle.asked.proofs.chase.ask_at.Goals as goal
use Rattle.asked.proofs.chase.ask_at.Goals.{After-ask_one}

-- which turn it is need not be known
first-turn : {A B C D : Type 0} → (A × B × C) ⊎ D → (A × B) ⊎ D
first-turn (inl (a, b, _)) = inl (a, b)
first-turn (inr d) = inr d

pub loop-turn-init : goal.loop-turn-init
loop-turn-init c = (c.requires.1, chased_none, inl (refl, refl, refl))

pub ask_one-requires : goal.ask_one-requires
ask_one-requires c =
    let (bits, _, small, threads) = c.requires in
    let (row, chased, _) = c.loop-turn.invariant in
    (marks_on_bits (chased.reached anywhere) bits, row, small, threads_kept c.args.task.now.site.accepted chased.below threads)

-- what this turn leaves
module _ (c : After-ask_one) where
  chased : ChasedIn c.args.task.now c.args.numbers.now c.args.asked.now c.args.ends.now c.ask_one.new.asked c.ask_one.new.ends
  chased = chased_then c.loop-turn.invariant.1 c.ask_one.ensures.0

  falls : Waits c.args.asked.now (place c.args.from c.args.t) → Fewer c.args.asked.now c.ask_one.new.asked
  falls =
      let few = c.args.task.now.ready.few in
      let row = c.loop-turn.invariant.0 in
      turned (first-turn c.loop-turn.invariant.2) (place_below (omega arith) c.requires.2) c.ask_one.ensures.1

pub returns-in_default : goal.returns-in_default
returns-in_default c = let at = (goal.at.returns-in_default c).After-ask_one in (chased at, falls at)

pub loop-turn-preserved : goal.loop-turn-preserved
loop-turn-preserved c = let at = (goal.at.loop-turn-preserved c).After-ask_one in (c.in-Some.ensures, chased at, inr (falls at))
