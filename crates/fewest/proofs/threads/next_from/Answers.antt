-- `fewest::threads::next_from` meets its contract: the cell read is that of the threads along which the axis starts.
use mathlib.Core.Path.{sym, ◌∙◌, refl}
use native.Mathlib.Omega.{arith}
use Rattle.meaning.specs.Limits.{terms, triples}
use Rattle.fewest.proofs.Threading.{along_order, along_threads, read_next}
use Rattle.fewest.proofs.threads.next_from.Goals as goal

pub returns-in-None : goal.returns-in-None
returns-in-None c = record {
  later = c.same_subject.ensures.later;
  next = λ axis at threads. along_order _ axis (sym at ∙ c.in-None.is) c.same_subject.ensures;
}

pub overflow_add-place : goal.overflow_add-place
unfolding terms triples
overflow_add-place c =
    omega (arith, c.requires.1 _ c.in-Some.is, c.args.site.now.accepted.few)

pub returns-in-Some : goal.returns-in-Some
returns-in-Some c = record {
  later = c.later.ensures.0;
  next = λ axis at threads own.
      let along = along_threads _ _ axis (sym at ∙ c.in-Some.is) threads in
      read_next along.1 c.requires.0 own refl c.cell.ensures.0 c.later.ensures.1;
}
