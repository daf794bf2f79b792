-- `asked::narrow::narrow` meets its contract: the bytes are laid out, the rows of the first records have their bits, and those of the
-- others are cleared. That each entry is a byte is known where the table is lent on.
use native.Mathlib.Omega.{arith}
use Rattle.meaning.specs.Limits.{terms, records}
use Rattle.asked.proofs.Narrowing.{all_narrowed}
use Rattle.asked.proofs.narrow.narrow.Goals as goal

pub returns : goal.returns
unfolding terms records
returns c =
    all_narrowed c.requires.1 (λ i. omega (arith, c.fits-asked i)) c.lay_out_all.ensures c.narrow_rows.ensures c.clear_rows.ensures (omega arith)
