use Rattle.rel_compose.proofs.Reading.{two_reads}
use Rattle.rel_compose.proofs.dense.looks_dense.Goals as goal

pub returns : goal.returns
returns c = record { reads = two_reads c.quarters-four.ensures.reads c.are_filled.ensures.reads }
