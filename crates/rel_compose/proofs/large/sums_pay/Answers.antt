use Rattle.rel_compose.proofs.Reading.{two_reads, stays}
use Rattle.rel_compose.proofs.large.sums_pay.Goals as goal

pub has_many_dense-requires-2-clause-stands : goal.has_many_dense-requires-2-clause-stands
has_many_dense-requires-2-clause-stands c = stays c.has_many_dense.ensures.reads c.requires.b_stands

pub returns-clause-reads : goal.returns-clause-reads
returns-clause-reads c = two_reads c.has_many_dense.ensures.reads c.has_many_dense-2.ensures.reads
