use Rattle.bench_trees.proofs.Keeping.{holds_by, holds_on}
use Rattle.bench_trees.proofs.squares.+making.Goals as goal

pub returns-in-Ok-clause-holds : goal.returns-in-Ok-clause-holds
returns-in-Ok-clause-holds t c = holds_by 1 c.args.nodes.now c.block.new.self c.block.ensures.keeps

pub returns-in-Err-clause-holds : goal.returns-in-Err-clause-holds
returns-in-Err-clause-holds t c = holds_by 1 c.args.nodes.now c.block.new.self c.block.ensures.keeps

pub returns-in-Ok-corner-clause-holds : goal.returns-in-Ok-corner-clause-holds
returns-in-Ok-corner-clause-holds t c =
    let k = holds_by 3 c.quad_of-4.new.nodes c.corner.new.self c.corner.ensures.keeps in
    holds_on _ _ _ (holds_on _ _ _ (holds_on _ _ _ (holds_on _ _ _ c.in_ok-nw.ensures.holds c.in_ok-ne.ensures.holds) c.in_ok-sw.ensures.holds) c.in_ok-se.ensures.holds) k

pub returns-in-Err-corner-clause-holds : goal.returns-in-Err-corner-clause-holds
returns-in-Err-corner-clause-holds t c =
    let k = holds_by 3 c.quad_of-4.new.nodes c.corner.new.self c.corner.ensures.keeps in
    holds_on _ _ _ (holds_on _ _ _ (holds_on _ _ _ (holds_on _ _ _ c.in_ok-nw.ensures.holds c.in_ok-ne.ensures.holds) c.in_ok-sw.ensures.holds) c.in_ok-se.ensures.holds) k
