use Rattle.std.proofs.Common.{arith}
use Rattle.k2_parts.proofs.Reaching.{known, height_within, height_read, extent_within, rows_low, cols_low, extent_is}
use Rattle.k2_parts.proofs.extents.extent_at.Goals as goal

pub bounds-heights-at : goal.bounds-heights-at
bounds-heights-at c = height_within c.args.quads.now c.args.heights.now c.requires.sound c.args.at c.requires.within

pub overflow_sub-heights : goal.overflow_sub-heights
overflow_sub-heights c =
    let r = height_read c.args.quads.now c.args.heights.now c.requires.sound c.args.at c.requires.within in
    omega (arith, r)

pub side_of-side-requires : goal.side_of-side-requires
side_of-side-requires c =
    let r = height_read c.args.quads.now c.args.heights.now c.requires.sound c.args.at c.requires.within in
    let l = (known c.args.quads.now c.args.heights.now c.requires.sound c.args.at c.requires.within).low in
    omega (arith, r, l)

pub bounds-extents-quad : goal.bounds-extents-quad
bounds-extents-quad c =
    extent_within c.args.quads.now c.args.heights.now c.requires.sound c.args.at c.requires.within c.args.extents.now c.requires.lower _
    (known c.args.quads.now c.args.heights.now c.requires.sound c.args.at c.requires.within).less.nw

pub bounds-extents-quad-2 : goal.bounds-extents-quad-2
bounds-extents-quad-2 c =
    extent_within c.args.quads.now c.args.heights.now c.requires.sound c.args.at c.requires.within c.args.extents.now c.requires.lower _
    (known c.args.quads.now c.args.heights.now c.requires.sound c.args.at c.requires.within).less.ne

pub bounds-extents-quad-3 : goal.bounds-extents-quad-3
bounds-extents-quad-3 c =
    extent_within c.args.quads.now c.args.heights.now c.requires.sound c.args.at c.requires.within c.args.extents.now c.requires.lower _
    (known c.args.quads.now c.args.heights.now c.requires.sound c.args.at c.requires.within).less.sw

pub bounds-extents-quad-4 : goal.bounds-extents-quad-4
bounds-extents-quad-4 c =
    extent_within c.args.quads.now c.args.heights.now c.requires.sound c.args.at c.requires.within c.args.extents.now c.requires.lower _
    (known c.args.quads.now c.args.heights.now c.requires.sound c.args.at c.requires.within).less.se

pub extent_over-requires-clause-rows : goal.extent_over-requires-clause-rows
extent_over-requires-clause-rows c =
    rows_low c.args.quads.now c.args.heights.now c.requires.sound c.args.at c.requires.within c.args.extents.now c.requires.lower
    c.side_of-side.result c.side_of-side.ensures

pub extent_over-requires-clause-cols : goal.extent_over-requires-clause-cols
extent_over-requires-clause-cols c =
    cols_low c.args.quads.now c.args.heights.now c.requires.sound c.args.at c.requires.within c.args.extents.now c.requires.lower
    c.side_of-side.result c.side_of-side.ensures

pub returns : goal.returns
returns c =
    extent_is c.args.quads.now c.args.heights.now c.requires.sound c.args.at c.requires.within c.args.extents.now c.requires.lower
    c.side_of-side.result c.side_of-side.ensures c.extent_over.result c.extent_over.ensures.rows c.extent_over.ensures.cols
