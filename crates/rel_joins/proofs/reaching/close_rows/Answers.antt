use Rattle.std.proofs.Common.{arith}
use Rattle.rel_joins.proofs.Reaches.{closing_all}
use Rattle.rel_joins.proofs.reaching.close_rows.Goals as goal

pub returns-clause-closed : goal.returns-clause-closed
returns-clause-closed c = closing_all c.requires.within c.requires.order c.rows.invariant.1 (omega (arith, c.rows-test.false)) (omega arith)
