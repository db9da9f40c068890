use Rattle.std.proofs.Common.{◌<◌, length, refl, sym, arith}
use Rattle.rel_model.specs.Trees.{bottom_height}
use Rattle.tree_blocks.specs.Order.{square_cells}
use Rattle.tree_blocks.proofs.Opening.{square_none}
use Rattle.tree_blocks.proofs.Naming.{gathered_more, gathered_missed}
use Rattle.tree_blocks.proofs.gather.name_blocks.Goals as goal

pub returns-in_err-quad-clause-stood : goal.returns-in_err-quad-clause-stood
returns-in_err-quad-clause-stood c all =
    absurd (gathered_missed 1 c.args.nodes.now c.blocks-2.nodes c.block.new.self bottom_height (square_cells 0 c.args.blocks.now) _ c.args.names.now c.blocks-2.names c.args.count c.blocks-2.place _ c.blocks-2-test.true
    (sym (square_none 0 c.args.blocks.now c.blocks-2.place refl)) c.blocks-2.invariant c.in_err-quad.ensures.stood all)

pub blocks-2-preserved : goal.blocks-2-preserved
blocks-2-preserved c =
    let long : c.blocks-2.place < length c.blocks-2.names = (let a = c.blocks-2.invariant.len in let b = c.requires.room in let d = c.blocks-2-test.true in omega arith) in
    gathered_more 1 c.args.nodes.now c.blocks-2.nodes c.block.new.self bottom_height (square_cells 0 c.args.blocks.now) _ c.args.names.now c.blocks-2.names c.args.count c.blocks-2.place c.in_ok-quad.quad (omega arith) c.blocks-2-test.true
    long (sym (square_none 0 c.args.blocks.now c.blocks-2.place refl)) c.blocks-2.invariant c.in_ok-quad.ensures.value c.in_ok-quad.ensures.stood c.in_ok-quad.ensures.keeps c.in_ok-quad.ensures.counts
