use native.Mathlib.Omega.{arith}
use Rattle.asked.specs.Count.{part}
use Rattle.asked.proofs.Sums.{cut, sum_parts, bits_front, bits_back, sum_few}
use Rattle.asked.proofs.count.count.Goals as goal

pub count_part-requires : goal.count_part-requires
unfolding part
count_part-requires c =
    let (front, back, _) = c.in-Some.ensures.cases in
    (bits_front c.in-Some.ones.now c.in-Some.rest.now (rw (cut part front back) at c.loop-ones.invariant.0), omega arith)

pub overflow_add-n : goal.overflow_add-n
unfolding part
overflow_add-n c =
    let (front, back, _) = c.in-Some.ensures.cases in
    let parts = rw (← cut part front back) at (sum_parts c.in-Some.ones.now c.in-Some.rest.now) in
    omega (arith, parts, sum_few c.args.table.now c.requires)

pub loop-ones-preserved : goal.loop-ones-preserved
unfolding part
loop-ones-preserved c =
    let (front, back, _) = c.in-Some.ensures.cases in
    let parts = rw (← cut part front back) at (sum_parts c.in-Some.ones.now c.in-Some.rest.now) in
    (bits_back c.in-Some.ones.now c.in-Some.rest.now (rw (cut part front back) at c.loop-ones.invariant.0), omega arith)

pub count_part-requires-2 : goal.count_part-requires-2
unfolding part
count_part-requires-2 c = (c.loop-ones.invariant.0, omega (arith, c.in_default.ensures.cases))

pub overflow_add-result : goal.overflow_add-result
overflow_add-result c = omega (arith, sum_few c.args.table.now c.requires)
