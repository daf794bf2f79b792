-- `calls::ceiling::different_terms` meets its contract: the sum of the marks is the number of different terms, and at most
-- the number of all terms.
use Rattle.calls.proofs.TermTables.{table_bits, table_few}
use Rattle.calls.proofs.Noting.{noted_counted}
use Rattle.calls.proofs.ceiling.different_terms.Goals as goal

pub count-requires : goal.count-requires
count-requires c = table_bits c.note.ensures

pub returns : goal.returns
returns c =
    let site = c.args.site.now in
    let noted = c.note.ensures in
    rw c.count.ensures (noted_counted site.bytes.now site.accepted noted, table_few noted)
