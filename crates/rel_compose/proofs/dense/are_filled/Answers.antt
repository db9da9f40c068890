use Rattle.rel_compose.proofs.Reading.{two_reads, three_reads, four_reads, stays}
use Rattle.rel_compose.proofs.dense.are_filled.Goals as goal

pub filled_quarters-second-requires : goal.filled_quarters-second-requires
filled_quarters-second-requires c = record { stands = stays c.filled_quarters-first.ensures.reads c.requires.ne }

pub filled_quarters-third-requires : goal.filled_quarters-third-requires
filled_quarters-third-requires c = record { stands = stays (two_reads c.filled_quarters-first.ensures.reads c.filled_quarters-second.ensures.reads) c.requires.sw }

pub filled_quarters-fourth-requires : goal.filled_quarters-fourth-requires
filled_quarters-fourth-requires c = record { stands = stays (three_reads c.filled_quarters-first.ensures.reads c.filled_quarters-second.ensures.reads c.filled_quarters-third.ensures.reads) c.requires.se }

pub returns : goal.returns
returns c = record { reads = four_reads c.filled_quarters-first.ensures.reads c.filled_quarters-second.ensures.reads c.filled_quarters-third.ensures.reads c.filled_quarters-fourth.ensures.reads }
