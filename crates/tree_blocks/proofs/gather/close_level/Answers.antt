use Rattle.std.proofs.Common.{◌+◌, ◌<◌, length, arith}
use Rattle.tree_blocks.specs.Levels.{corner_cells}
use Rattle.tree_blocks.proofs.Naming.{gathered_more, gathered_missed, stands_now, corner_now}
use Rattle.tree_blocks.proofs.gather.close_level.Goals as goal

pub corner_at-requires-clause-nw : goal.corner_at-requires-clause-nw
corner_at-requires-clause-nw c = let l = c.names-test.true in stands_now _ _ _ _ _ _ _ _ c.args.count c.names.place _ c.requires.stands (omega arith) (omega arith) c.names.invariant

pub corner_at-requires-clause-ne : goal.corner_at-requires-clause-ne
corner_at-requires-clause-ne c = let l = c.names-test.true in stands_now _ _ _ _ _ _ _ _ c.args.count c.names.place _ c.requires.stands (omega arith) (omega arith) c.names.invariant

pub corner_at-requires-clause-sw : goal.corner_at-requires-clause-sw
corner_at-requires-clause-sw c = let l = c.names-test.true in stands_now _ _ _ _ _ _ _ _ c.args.count c.names.place _ c.requires.stands (omega arith) (omega arith) c.names.invariant

pub corner_at-requires-clause-se : goal.corner_at-requires-clause-se
corner_at-requires-clause-se c = let l = c.names-test.true in stands_now _ _ _ _ _ _ _ _ c.args.count c.names.place _ c.requires.stands (omega arith) (omega arith) c.names.invariant

pub returns-in_err-quad-clause-stood : goal.returns-in_err-quad-clause-stood
returns-in_err-quad-clause-stood c all =
    let same = corner_now _ _ _ c.args.height _ _ _ _ _ _ c.requires.stands c.names-test.true c.names.invariant in
    absurd (gathered_missed 3 c.args.nodes.now c.names.nodes c.corner_at.new.nodes (c.args.height + 1) (corner_cells c.args.nodes.now c.args.height c.args.names.now) _ c.args.names.now c.names.names c.args.count c.names.place _ c.names-test.true
    same c.names.invariant c.in_err-quad.ensures.stood all)

pub names-preserved : goal.names-preserved
names-preserved c =
    let same = corner_now _ _ _ c.args.height _ _ _ _ _ _ c.requires.stands c.names-test.true c.names.invariant in
    let long : c.names.place < length c.names.names = (let a = c.names.invariant.len in let b = c.requires.room in let d = c.names-test.true in omega arith) in
    gathered_more 3 c.args.nodes.now c.names.nodes c.corner_at.new.nodes (c.args.height + 1) (corner_cells c.args.nodes.now c.args.height c.args.names.now) _ c.args.names.now c.names.names c.args.count c.names.place c.in_ok-quad.quad (omega arith) c.names-test.true
    long same c.names.invariant c.in_ok-quad.ensures.value c.in_ok-quad.ensures.stood c.in_ok-quad.ensures.keeps c.in_ok-quad.ensures.counts
