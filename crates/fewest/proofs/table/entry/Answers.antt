-- `fewest::table::entry` meets its contract: the one place of the code's limits beside the places' definition.
use mathlib.Core.Path.{refl}
use Rattle.meaning.specs.Limits.{terms, records}
use native.Mathlib.Omega.{arith}
use Rattle.fewest.proofs.table.entry.Goals as goal

pub overflow_mul-result : goal.overflow_mul-result
unfolding terms records
overflow_mul-result c = omega arith

pub overflow_add-result : goal.overflow_add-result
unfolding terms records
overflow_add-result c = omega arith

pub returns : goal.returns
unfolding terms records
returns c = (refl, omega arith)
