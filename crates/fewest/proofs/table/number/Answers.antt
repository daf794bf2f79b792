-- `fewest::table::number` meets its contract: what is read at the place is the entry's number.
use Rattle.fewest.specs.Pairs.{pairs}
use Rattle.fewest.proofs.Entries.{read_view}
use Rattle.meaning.specs.Limits.{terms, records, none}
use native.Mathlib.Omega.{arith}
use Rattle.fewest.proofs.table.number.Goals as goal

pub get-requires : goal.get-requires
unfolding terms records
get-requires c = omega arith

pub returns : goal.returns
unfolding none
returns c = (
  read_view (pairs c.args.numbers.now) _ _ c.entry.ensures.0 c.get.ensures.0,
  omega arith,
)
