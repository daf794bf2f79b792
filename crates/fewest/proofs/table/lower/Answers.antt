-- `fewest::table::lower` meets its contract, by the laws of Entries.
use Rattle.fewest.specs.Pairs.{pairs}
use Rattle.fewest.proofs.Entries.{lowered_yes, lowered_no}
use Rattle.meaning.specs.Limits.{terms, records}
use native.Mathlib.Omega.{arith}
use Rattle.fewest.proofs.table.lower.Goals as goal

pub get-requires : goal.get-requires
unfolding terms records
get-requires c = omega arith

pub put-requires : goal.put-requires
unfolding terms records
put-requires c = (omega arith, omega arith)

pub returns-then-v-get : goal.returns-then-v-get
returns-then-v-get c =
    lowered_yes (pairs c.args.numbers.now) _ _
    c.entry-i.ensures.0 c.get.ensures.0
    _ c.if-v-get.true c.put.ensures

pub returns : goal.returns
returns c =
    lowered_no (pairs c.args.numbers.now) _ _
    c.entry-i.ensures.0 c.get.ensures.0 _ c.if-v-get.false
