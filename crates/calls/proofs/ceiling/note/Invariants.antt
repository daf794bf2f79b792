-- `calls::ceiling::note` meets its contract: each turn marks the terms of one triple more.
use Rattle.calls.specs.Tables.{TermTable}
use Rattle.calls.proofs.Standing.{Standing}
use Rattle.calls.proofs.Noting.{Stands}
use Rattle.calls.proofs.ceiling.note.Given as goal

abbrev pub invariant-loop-k : goal.invariant-loop-k
invariant-loop-k l = TermTable (Standing l.site.bytes.now Stands l.k) l.seen
