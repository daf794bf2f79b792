-- `calls::query::Query::task` meets its contract: the sweeps may begin with what a query stands on.
use Rattle.calls.proofs.Admits.{given_ready}
use Rattle.calls.proofs.query.Query.task.Goals as goal

pub invariant_of-result-2 : goal.invariant_of-result-2
invariant_of-result-2 c = record { ready = given_ready (record { read = c.args.self.now.read; links = c.requires }) }
