use Rattle.levels.proofs.Levelling.{levelled_numbers, levelled_scratch, levelled_then}
use Rattle.levels.proofs.search.begin_all.Goals as goal

pub loop-bit-preserved : goal.loop-bit-preserved
loop-bit-preserved c =
    levelled_then c.loop-bit.invariant
    (levelled_then (levelled_numbers c.sweep_record.ensures) (levelled_scratch c.note_all.ensures))
