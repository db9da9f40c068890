use Rattle.std.proofs.Common.{◌^◌}
use Rattle.rel_domains.specs.Rules.{rule_cells}
use Rattle.rel_domains.proofs.Rows.{Filled}
use Rattle.rel_domains.proofs.square.word_at.Given as goal

abbrev pub invariant-rows : goal.invariant-rows
invariant-rows l = Filled (2 ^ l.fn.least) l.fn.row l.fn.col (rule_cells l.fn.shape.rows l.fn.shape.cols l.fn.rule) l.i l.bits
