use Rattle.std.proofs.Common.{arith}
use Rattle.rel_compose.proofs.Fitting.{side_small}
use Rattle.rel_compose.proofs.Reading.{two_reads, stays}
use Rattle.rel_compose.proofs.dense.rows_pay.Goals as goal

pub is_dense-requires-2-clause-stands : goal.is_dense-requires-2-clause-stands
is_dense-requires-2-clause-stands c = stays c.is_dense.ensures.reads c.requires.b_stands

pub returns-clause-small : goal.returns-clause-small
returns-clause-small c e = side_small c.args.a.height c.requires.a_stands.low (omega arith)

pub returns-clause-reads : goal.returns-clause-reads
returns-clause-reads c = two_reads c.is_dense.ensures.reads c.is_dense-2.ensures.reads
