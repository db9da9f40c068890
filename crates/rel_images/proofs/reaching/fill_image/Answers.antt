use Rattle.std.proofs.Common.{◌-◌, ◌^◌, ◌∙◌, length, arith}
use Rattle.rel_model.specs.Worker.{quad_set}
use Rattle.rel_images.specs.Lines.{bits_of, image_line, line_under, turned_cells}
use Rattle.rel_images.proofs.Heaps.{heap_made, length-zeros, root_place}
use Rattle.rel_images.proofs.reaching.fill_image.Goals as goal

pub walk-left-requires-clause-from : goal.walk-left-requires-clause-from
walk-left-requires-clause-from g c = let e = c.requires.places in omega (arith, e)

pub walk-left-requires-clause-to : goal.walk-left-requires-clause-to
walk-left-requires-clause-to g c = root_place c.args.leaves (2 ^ (c.args.quad.height - g.Q.Core.least)) (length c.args.ys.now) c.requires.leaves (length-zeros c.args.leaves c.args.ys.now c.requires.zeros)

pub mark-requires : goal.mark-requires
mark-requires g c = c.walk-left.ensures.len ∙ length-zeros c.args.leaves c.args.ys.now c.requires.zeros

pub returns-clause-heap : goal.returns-clause-heap
returns-clause-heap g c e =
    let a = c.args in
    let n = c.if-left-eq0.false in
    heap_made g.Q.Core.least a.quad.height a.leaves (image_line (2 ^ a.quad.height) (line_under g.Q.Core.least (bits_of a.xs.now) (a.quad.height - g.Q.Core.least) 1) (turned_cells a.turned (quad_set (g.Q.Core.worker a.q.now) a.quad))) a.ys.now c.walk-left.new.ys c.mark.new.xs
    (g.met.Q.Quads.low_height a.q.now a.quad c.requires.stands) c.requires.leaves c.requires.zeros (c.walk-left.ensures.adds (omega (arith, n))) c.mark.ensures
