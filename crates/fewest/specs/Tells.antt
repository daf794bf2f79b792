-- What a yes or a no tells.
use Rattle.std.specs.Prelude.{Bool, true, false}

pub data Tells (A : Type 0) : Bool → Type 0 where
  holds : A → Tells A true
  fails : (A → ⊥) → Tells A false
