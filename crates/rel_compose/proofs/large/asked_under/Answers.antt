use Rattle.rel_compose.proofs.Reading.{two_reads, stays}
use Rattle.rel_compose.proofs.large.asked_under.Goals as goal

pub has_dense-requires-2-clause-stands : goal.has_dense-requires-2-clause-stands
has_dense-requires-2-clause-stands c = stays c.has_dense.ensures.reads c.requires.b_stands

pub returns-then-has_dense : goal.returns-then-has_dense
returns-then-has_dense c = record { reads = two_reads c.has_dense.ensures.reads c.has_dense-2.ensures.reads }

pub returns-else-has_dense : goal.returns-else-has_dense
returns-else-has_dense c = record { reads = two_reads c.has_dense.ensures.reads c.has_dense-2.ensures.reads }
