-- `asked::wait::waiting` meets its contract: none that was passed waits.
use Prim.Native.Nat.{◌+◌, ◌*◌}
use Rattle.meaning.specs.Limits.{terms}
use Rattle.asked.specs.Serve.{NoneWaits}
use Rattle.asked.proofs.wait.waiting.Given as goal

abbrev pub invariant-loop-r : goal.invariant-loop-r
invariant-loop-r l = NoneWaits l.asked (l.r * terms)

abbrev pub invariant-loop-t : goal.invariant-loop-t
invariant-loop-t l = NoneWaits l.asked (l.r * terms + l.t)
