use Rattle.std.proofs.Common.{length}
use Rattle.rel_joins.proofs.reaching.note_all.Goals as goal

pub note_row-requires : goal.note_row-requires
note_row-requires c = record { ends = c.row_of.ensures.ends (length c.args.places.now) c.requires.ends }
