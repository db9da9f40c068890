use Rattle.std.proofs.Common.{arith}
use Rattle.rel_slices.proofs.Membering.{leaf_at, leaf_2_0, leaf_2_1, leaf_3_0, leaf_3_1, leaf_3_2}
use Rattle.rel_slices.proofs.member.leaf_bits.Goals as goal

pub returns-then-i-eq0-clause-cells : goal.returns-then-i-eq0-clause-cells
returns-then-i-eq0-clause-cells c = leaf_at c.args.least c.args.i 2 0 10 (omega arith) (omega arith) leaf_2_0

pub returns-then-least-eq2-clause-cells : goal.returns-then-least-eq2-clause-cells
returns-then-least-eq2-clause-cells c = leaf_at c.args.least c.args.i 2 1 12 (omega arith) (omega arith) leaf_2_1

pub returns-then-i-eq0-2-clause-cells : goal.returns-then-i-eq0-2-clause-cells
returns-then-i-eq0-2-clause-cells c = leaf_at c.args.least c.args.i 3 0 170 (omega arith) (omega arith) leaf_3_0

pub returns-then-i-eq1-clause-cells : goal.returns-then-i-eq1-clause-cells
returns-then-i-eq1-clause-cells c = leaf_at c.args.least c.args.i 3 1 204 (omega arith) (omega arith) leaf_3_1

pub returns-clause-cells : goal.returns-clause-cells
returns-clause-cells c = leaf_at c.args.least c.args.i 3 2 240 (omega arith) (omega arith) leaf_3_2
