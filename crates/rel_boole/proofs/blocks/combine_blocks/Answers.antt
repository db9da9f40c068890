use Rattle.std.proofs.Common.{◌<◌, length, arith}
use Rattle.rel_boole.proofs.ByBlocks.{combined_more}
use Rattle.rel_boole.proofs.blocks.combine_blocks.Goals as goal

pub places-preserved : goal.places-preserved
places-preserved c =
    let l : c.places.place < length c.places.blocks = (let x = c.places-test.true in let y = c.places.invariant.len in omega (arith, x, y)) in
    combined_more c.args.op c.args.blocks.now c.args.others.now c.places.blocks c.places.place c.block_by.result l c.places.invariant c.block_by.ensures
