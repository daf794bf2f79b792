-- That a record may stand where it does is one fact, so that a value may keep it: it has one proof at most.
use Rattle.std.specs.Prelude.{ℕ}
use Rattle.std.specs.Coded.{Unit-prop, le_prop}
use Rattle.records.specs.declared.Label.{Label}
use Rattle.records.specs.declared.Label.TheVariants.{Any, Term, Test}
use Rattle.records.specs.declared.Record.{Record}
use Rattle.records.specs.declared.Record.TheVariants as kind
use Rattle.fewest.specs.Work.{Tests, Sits}

pub tests_once : (l : Label) (r : ℕ) → IsProp (Tests l r)
tests_once Any r = Unit-prop
tests_once (Term n) r = le_prop
tests_once Test r = le_prop

pub sits_once : (x : Record) (r : ℕ) → IsProp (Sits x r)
sits_once (kind.Step x) r = tests_once x.label r
sits_once kind.Sequence r = Unit-prop
sits_once kind.Choice r = le_prop
sits_once kind.Star r = le_prop
