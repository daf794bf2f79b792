-- `asked::spread::clear` meets its contract: every row is filled with 0.
use Rattle.meaning.specs.Limits.{terms, records}
use Rattle.asked.specs.Seek.{Whole}
use Rattle.asked.proofs.Beginning.{all_cleared}
use Rattle.asked.proofs.spread.clear.Goals as goal

pub returns : goal.returns
unfolding terms records Whole
returns c = all_cleared c.told-asked c.clear_rows.ensures
