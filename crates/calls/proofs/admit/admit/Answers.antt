-- `calls::admit::admit` meets its contract: what was read goes on, and the first refusal goes out.
use mathlib.Core.Path.{◌≡◌, refl}
use borrow.Author.Rules.{rules}
use Rattle.std.specs.Prelude.{Err}
use Rattle.records.proofs.Sites.{checked_site}
use Rattle.calls.specs.Inner.{by_site, by_rule, by_start, by_end}
use Rattle.calls.proofs.Admitting.{turned, ready, term_read, term_refused}
use Rattle.calls.proofs.admit.admit.Goals as goal

pub returns-in_err-triples : goal.returns-in_err-triples
returns-in_err-triples c =
    let gone : c.from_residual.result ≡ Err c.in_err-triples.field-0.0 = search rules in
    turned gone (by_site c.in_err-triples.ensures)

pub returns-in_err-count : goal.returns-in_err-count
returns-in_err-count c =
    let gone : c.from_residual-in_err-count.result ≡ Err c.in_err-count.field-0.0 = search rules in
    turned gone (by_rule c.in_ok-triples.ensures c.in_err-count.ensures.answer)

pub returns-in_err-from : goal.returns-in_err-from
returns-in_err-from c =
    let gone : c.from_residual-in_err-from.result ≡ Err c.in_err-from.field-0.0 = search rules in
    let (same, above) = term_refused c.args.start 0 c.in_err-from.ensures in
    turned gone (rw same (by_start c.in_ok-triples.ensures c.in_ok-count.ensures.answer above))

pub returns-in_err-to : goal.returns-in_err-to
returns-in_err-to c =
    let gone : c.from_residual-in_err-to.result ≡ Err c.in_err-to.field-0.0 = search rules in
    let (same, above) = term_refused c.args.end 1 c.in_err-to.ensures in
    let start = (term_read c.args.start 0 c.in_ok-from.ensures).1 in
    turned gone (rw same (by_end c.in_ok-triples.ensures c.in_ok-count.ensures.answer start above))

pub invariant_of-query : goal.invariant_of-query
invariant_of-query c = record { accepted = checked_site c.in_ok-triples.ensures }

pub invariant_of-query-2 : goal.invariant_of-query-2
invariant_of-query-2 c =
    let (from, start) = term_read c.args.start 0 c.in_ok-from.ensures in
    let (to, end) = term_read c.args.end 1 c.in_ok-to.ensures in
    record {
      read = record { site = c.in_ok-triples.ensures; rule = c.in_ok-count.ensures.answer; places = c.in_ok-count.ensures.starts };
      start_fits = rw from start;
      end_fits = rw to end;
    }

pub returns : goal.returns
returns c =
    let from = (term_read c.args.start 0 c.in_ok-from.ensures).0 in
    let to = (term_read c.args.end 1 c.in_ok-to.ensures).0 in
    ready (record { site = refl; rule = refl; from = from; to = to })
