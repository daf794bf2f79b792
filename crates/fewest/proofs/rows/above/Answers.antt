use Prim.Native.Nat.{◌+◌, ◌*◌, ◌≤◌}
use native.Mathlib.Omega.{arith}
use lib.ListN.{get_or}
use borrow.Author.Count.{below_more}
use borrow.Author.Tests.{ltb-false}
use Rattle.meaning.specs.Limits.{terms, records}
use Rattle.fewest.specs.Table.{Full}
use Rattle.fewest.proofs.Quieting.{row_below}
use Rattle.fewest.proofs.rows.above.Goals as goal

pub overflow_mul-at : goal.overflow_mul-at
unfolding records
overflow_mul-at c = omega arith

pub overflow_mul-from : goal.overflow_mul-from
unfolding records
overflow_mul-from c = omega arith

pub overflow_add-at : goal.overflow_add-at
unfolding records terms
overflow_add-at c = omega arith

pub bounds-numbers-at : goal.bounds-numbers-at
unfolding records terms
bounds-numbers-at c = omega arith

pub overflow_add-from : goal.overflow_add-from
unfolding records terms
overflow_add-from c = omega arith

pub bounds-numbers-from : goal.bounds-numbers-from
unfolding records terms
bounds-numbers-from c = omega arith

pub loop-i-preserved : goal.loop-i-preserved
unfolding terms
loop-i-preserved c =
    let loop = c.loop-i in
    let N = c.args.numbers.now in
    let b = c.args.b in
    let a = c.args.a in
    let most = c.max-most.ensures in
    let by = c.saturating_sub.ensures in
    below_more (λ j. get_or N (b * (terms + terms) + j) 0 ≤ get_or N (a * (terms + terms) + j) 0 + c.max-most.result) loop.i
    (λ j h. let l = loop.invariant j h in omega arith) (omega arith)

pub returns : goal.returns
unfolding Full records terms
returns c =
    λ none.
    let (row, other) = c.requires in
    let loop = c.loop-i in
    let few = ltb-false 0 loop.most none in
    row_below c.args.numbers.now c.args.b c.args.a (omega arith) row other (λ i h. let l = loop.invariant i (omega arith) in omega arith)
