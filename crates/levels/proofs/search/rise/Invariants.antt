-- `levels::search::rise` meets its contract: step by step of the set.
use Rattle.levels.specs.Levelled.{HintedFor}
use Rattle.levels.proofs.search.rise.Given as goal

abbrev pub invariant-loop-bit : goal.invariant-loop-bit
invariant-loop-bit l = HintedFor l.task l.initial.numbers l.numbers
