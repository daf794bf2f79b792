-- `levels::search::levels` meets its contract: the threads are laid, and all that follows keeps them.
use Rattle.fewest.proofs.Keeping.{kept_then, threads_kept}
use Rattle.levels.proofs.search.levels.Goals as goal

pub returns : goal.returns
returns c =
    let searched = c.search_all.ensures in
    let hints = kept_then c.sizes.ensures c.orders.ensures in
    let kept = kept_then (kept_then hints c.put_sets.ensures) searched.scratch in
    (searched.numbers, threads_kept c.args.task.now.site.accepted kept.same c.thread.ensures)
