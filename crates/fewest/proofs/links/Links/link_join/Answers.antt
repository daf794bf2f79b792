-- `fewest::links::Links::link_join` meets its contract: both operands end before the join.
use native.Mathlib.Omega.{arith}
use Rattle.meaning.specs.Limits.{records}
use Rattle.records.specs.Rules.{records_of}
use Rattle.fewest.proofs.Operands.{ends_inside, Join, join_operands, joined}
use Rattle.fewest.proofs.links.Links.link_join.Goals as goal
use Rattle.fewest.proofs.links.Links.link_join.Goals.{After-first_record-operand}

-- the operands, once the second's first record is found
found : (c : After-first_record-operand) → let a = c.args in Join (records_of a.rule.now) a.r c.first_record-operand.result
found c = let p = c.requires in join_operands p.1 p.2 c.first_record-operand.ensures

pub overflow_sub-operand : goal.overflow_sub-operand
overflow_sub-operand c = (found c).some

pub stand-requires : goal.stand-requires
stand-requires c = omega (arith, ends_inside _ c.requires.1)

pub stand-requires-2 : goal.stand-requires-2
stand-requires-2 c =
    omega (arith, found (goal.at.stand-requires-2 c).After-first_record-operand, ends_inside _ c.requires.1)

pub entry-own-requires : goal.entry-own-requires
entry-own-requires c = ends_inside _ c.requires.1

pub begin-requires : goal.begin-requires
unfolding records
begin-requires c =
    (ends_inside _ c.requires.1, omega (arith, found (goal.at.begin-requires c).After-first_record-operand, ends_inside _ c.requires.1))

pub returns : goal.returns
returns c =
    rw c.begin.ensures
    (joined (found (goal.at.returns c).After-first_record-operand)
    (rw (← c.entry-own.ensures.0, ← c.entry-own.ensures.1) c.stand.ensures) c.stand-2.ensures)
