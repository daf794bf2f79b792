-- `fewest::cells::put_byte` meets its contract: the byte is one of the free cells.
use Rattle.fewest.proofs.Keeping.{kept_byte}
use Rattle.fewest.proofs.cells.put_byte.Goals as goal

pub returns : goal.returns
returns c = kept_byte _ _ _ c.requires
