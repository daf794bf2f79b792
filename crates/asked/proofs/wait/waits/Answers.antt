use Prim.Native.Nat.{◌*◌, ◌-◌}
use native.Mathlib.Omega.{arith}
use borrow.Author.Tests.{ltb-false}
use Rattle.meaning.specs.Limits.{terms, triples}
use Rattle.asked.specs.Words.{size, waits_at}
use Rattle.asked.proofs.Splicing.{length-part, part_at}
use Rattle.asked.proofs.Waiting.{none_waits}
use Rattle.asked.proofs.wait.waits.Goals as goal

pub returns : goal.returns
unfolding terms triples
returns c none = none_waits c.args.asked.now (λ j from h.
    let long = length-part waits_at (size * terms) c.args.asked.now (omega arith) in
    let seen = c.loop-byte.invariant (j - waits_at) (omega arith) in
    omega (arith, part_at waits_at (size * terms) c.args.asked.now j from h, ltb-false 0 c.loop-byte.most none))
