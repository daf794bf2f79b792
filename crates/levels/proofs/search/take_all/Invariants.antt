-- `levels::search::take_all` meets its contract: triple after triple of a thread, which goes up.
-- The measure is what is left of the triples.
use Prim.Native.Nat.{◌-◌}
use Rattle.levels.specs.Levelled.{LevelledFor}
use Rattle.levels.proofs.search.take_all.Given as goal

abbrev pub invariant-loop-next : goal.invariant-loop-next
invariant-loop-next l = LevelledFor l.step.task.now l.initial.numbers l.numbers l.initial.scratch l.scratch

abbrev pub decreases-loop-next : goal.decreases-loop-next
decreases-loop-next l = l.site.triples - l.walk.at
