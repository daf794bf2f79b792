-- `fewest::starts::tell` meets its contract. The loop's invariant: the bits below t are told.
use Rattle.fewest.specs.Pairs.{pairs}
use Rattle.fewest.specs.Told.{Told}
use Rattle.fewest.proofs.starts.tell.Given as goal

abbrev pub invariant-loop-t : goal.invariant-loop-t
invariant-loop-t l = Told (pairs l.numbers) l.r l.t l.third
