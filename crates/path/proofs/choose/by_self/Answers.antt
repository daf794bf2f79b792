-- `path::choose::by_self` meets its contract: the step is offered where one may stay and staying suits.
use Rattle.meaning.specs.Limits.{none}
use Rattle.path.proofs.Stepping.{self_found, self_away, self_unfit}
use Rattle.path.proofs.choose.by_self.Goals as goal
use Rattle.path.proofs.choose.by_self.Goals.{else-may_stay-via-then-may_stay+else-suits, else-may_stay-via-else-may_stay}

pub returns-then-suits : goal.returns-then-suits
unfolding none
returns-then-suits c s tell =
    self_found _ _ _ _ (c.may_stay.ensures s _ tell) c.if-may_stay.true
    (c.suits.ensures s) c.if-suits.true

pub returns : goal.returns
returns c s tell = elim c.else-may_stay.branch [
  | else-may_stay-via-then-may_stay+else-suits w ↦ self_unfit _ _ _ _ (w.suits.ensures s) w.if-suits.false
  | else-may_stay-via-else-may_stay w ↦ self_away c.args.label _ _ _ (c.may_stay.ensures s _ tell) w.if-may_stay.false
]
