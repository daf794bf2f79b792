use Prim.Native.Nat.{◌+◌, ◌*◌}
use mathlib.Core.Path.{◌≡◌}
use native.Mathlib.Omega.{arith}
use lib.ListN.{length}
use Rattle.meaning.specs.Limits.{terms, records, none}
use Rattle.fewest.proofs.Decoded.{pairs_same}
use Rattle.fewest.proofs.sweep.clear.Goals as goal

pub returns : goal.returns
unfolding terms records none
returns c =
    let long : length c.args.numbers.now ≡ records * terms + records * terms = omega arith in
    rw (c.fill.ensures.after (λ y e. e), long) (pairs_same (records * terms) 255)
