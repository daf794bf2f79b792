-- That a record is this step is one fact, so that a value may keep it: it has one proof at most.
use Rattle.std.specs.Prelude.{ℕ, List}
use Rattle.std.proofs.Props.{props}
use Rattle.records.specs.declared.Step.{Step}
use Rattle.levels.specs.Levelled.{Stepping}

pub stepping_once : (rule starts : List ℕ) (r : ℕ) (x : Step) → IsProp (Stepping rule starts r x)
unfolding Stepping
stepping_once rule starts r x = Prim.hlevel props
