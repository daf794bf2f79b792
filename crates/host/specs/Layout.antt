-- Where each value of an outcome stands in the struct that C is handed.
-- The values themselves, with 0 for those that the outcome does not use, are those of calls/specs/Values.
use Rattle.calls.specs.Values.{Values}
use Rattle.host.specs.declared.layout.DecisionForC.{DecisionForC}
use Rattle.host.specs.declared.layout.EndsForC.{EndsForC}
use Rattle.host.specs.declared.layout.StartsForC.{StartsForC}
use Rattle.host.specs.declared.layout.CeilingForC.{CeilingForC}

unfoldable pub decision_of : Values → DecisionForC
decision_of v = record { refusal = v.refusal; yes = v.answer; place = v.place; figure = v.figure; steps = v.steps }

unfoldable pub ends_of : Values → EndsForC
ends_of v = record { refusal = v.refusal; unused = 0; place = v.place; ends = v.answer; figure = v.figure }

unfoldable pub starts_of : Values → StartsForC
starts_of v = record { refusal = v.refusal; unused = 0; place = v.place; starts = v.answer }

unfoldable pub ceiling_of : Values → CeilingForC
ceiling_of v = record { refusal = v.refusal; unused = 0; place = v.place; ceiling = v.answer }
