use Rattle.rel_compose.proofs.Reading.{stays}
use Rattle.rel_compose.proofs.Summing.{over_8}
use Rattle.rel_compose.proofs.large.has_many_dense.Goals as goal

pub quarters-four-requires-clause-over : goal.quarters-four-requires-clause-over
quarters-four-requires-clause-over c = over_8 c.args.q.height c.requires.over

pub has_dense-requires-clause-stands : goal.has_dense-requires-clause-stands
has_dense-requires-clause-stands c = stays c.quarters-four.ensures.reads c.requires.stands
