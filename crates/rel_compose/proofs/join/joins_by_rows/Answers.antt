use Rattle.rel_compose.proofs.Reading.{two_reads, three_reads, stays}
use Rattle.rel_compose.proofs.join.joins_by_rows.Goals as goal

pub both_dense-requires-clause-y_stands : goal.both_dense-requires-clause-y_stands
both_dense-requires-clause-y_stands c = stays c.both_full.ensures.reads c.requires.y_stands

pub both_dense-requires-clause-z_stands : goal.both_dense-requires-clause-z_stands
both_dense-requires-clause-z_stands c = stays c.both_full.ensures.reads c.requires.z_stands

pub look-requires-clause-a_stands : goal.look-requires-clause-a_stands
look-requires-clause-a_stands c = stays (two_reads c.both_full.ensures.reads c.both_dense.ensures.reads) c.requires.y_stands

pub look-requires-clause-b_stands : goal.look-requires-clause-b_stands
look-requires-clause-b_stands c = stays (two_reads c.both_full.ensures.reads c.both_dense.ensures.reads) c.requires.z_stands

pub returns-then-not-both_dense : goal.returns-then-not-both_dense
returns-then-not-both_dense c = record { reads = two_reads c.both_full.ensures.reads c.both_dense.ensures.reads }

pub returns : goal.returns
returns c = record { reads = three_reads c.both_full.ensures.reads c.both_dense.ensures.reads c.look.ensures.reads }
