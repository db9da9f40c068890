use Rattle.rel_compose.proofs.Reading.{two_reads, stays}
use Rattle.rel_compose.proofs.dense.is_dense.Goals as goal

pub has_distinct-requires : goal.has_distinct-requires
has_distinct-requires c = record { stands = stays c.looks_dense.ensures.reads c.requires.stands }

pub returns : goal.returns
returns c = record { reads = two_reads c.looks_dense.ensures.reads c.has_distinct.ensures.reads }
