-- `fewest::threads::thread` meets its contract: the triples from number k on are threaded.
use Rattle.fewest.specs.Threads.{ThreadsFrom}
use Rattle.fewest.proofs.threads.thread.Given as goal

abbrev pub invariant-loop-k : goal.invariant-loop-k
invariant-loop-k l = ThreadsFrom l.site.bytes.now l.site.triples l.k l.scratch
