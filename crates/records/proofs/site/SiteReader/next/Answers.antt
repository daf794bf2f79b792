-- `records::site::SiteReader::next` meets its contract: the record of a triple is whole, so the place past it is a number.
use mathlib.Core.Path.{sym, ◌∙◌}
use native.Mathlib.Omega.{arith}
use Rattle.records.proofs.SiteRecord.{some_fits}
use Rattle.records.proofs.site.SiteReader.next.Goals as goal

pub overflow_add-self : goal.overflow_add-self
overflow_add-self c =
    omega (arith, some_fits _ _ c.in_ok-found.found (sym c.site_record.ensures ∙ c.in_ok-found.was) (sym c.is_some.ensures ∙ c.if-is_some.true))
