-- `fewest::threads::thread_one` meets its contract: its triple is the next before those that are threaded.
use native.Mathlib.Omega.{arith}
use Rattle.meaning.specs.Limits.{terms, triples, records}
use Rattle.fewest.proofs.Threading.{many, part_terms, parts_own, threads_one}
use Rattle.fewest.proofs.threads.thread_one.Goals as goal

pub put_cell-requires : goal.put_cell-requires
unfolding terms triples records
put_cell-requires c =
    let good = c.args.site.now.accepted in
    let small = (part_terms (_, good, c.requires)).subject in
    let read = c.term_at-subject.ensures in
    (omega arith, omega (arith, good.few, many))

pub overflow_add-predicate : goal.overflow_add-predicate
unfolding terms
overflow_add-predicate c = omega (arith, (part_terms (_, c.args.site.now.accepted, c.requires)).predicate, c.term_at-predicate.ensures)

pub head-requires : goal.head-requires
unfolding terms triples records
head-requires c =
    let good = c.args.site.now.accepted in
    let small = (part_terms (_, good, c.requires)).predicate in
    let read = c.term_at-predicate.ensures in
    (omega arith, omega (arith, good.few), omega (arith, good.few, many))

pub overflow_add-object : goal.overflow_add-object
unfolding terms
overflow_add-object c = omega (arith, (part_terms (_, c.args.site.now.accepted, c.requires)).object, c.term_at-object.ensures)

pub head-requires-2 : goal.head-requires-2
unfolding terms triples records
head-requires-2 c =
    let good = c.args.site.now.accepted in
    let small = (part_terms (_, good, c.requires)).object in
    let read = c.term_at-object.ensures in
    (omega arith, omega (arith, good.few), omega (arith, good.few, many))

pub returns : goal.returns
unfolding terms triples records
returns c =
    λ n good here old.
    threads_one c.args.site.now.bytes.now c.args.scratch.now _ good here (omega arith)
    (parts_own _ good here c.term_at-subject.ensures c.term_at-predicate.ensures c.term_at-object.ensures)
    c.put_cell.ensures
    c.head.ensures
    c.head-2.ensures
    old
