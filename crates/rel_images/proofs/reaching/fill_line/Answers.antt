use Rattle.std.proofs.Common.{◌-◌, ◌^◌, ◌∙◌, length, arith}
use Rattle.rel_model.specs.Worker.{quad_set}
use Rattle.rel_images.specs.Lines.{first_row}
use Rattle.rel_images.proofs.Heaps.{heap_made, length-zeros, root_place}
use Rattle.rel_images.proofs.reaching.fill_line.Goals as goal

pub spread-requires-clause-within : goal.spread-requires-clause-within
spread-requires-clause-within g c = root_place c.args.leaves (2 ^ (c.args.height - g.Q.Core.least)) (length c.args.xs.now) c.requires.leaves (length-zeros c.args.leaves c.args.xs.now c.requires.zeros)

pub mark-requires : goal.mark-requires
mark-requires g c = c.spread.ensures.adds.len ∙ length-zeros c.args.leaves c.args.xs.now c.requires.zeros

pub returns-clause-heap : goal.returns-clause-heap
returns-clause-heap g c =
    let low = g.met.Q.Quads.low_height c.args.q.now c.args.line c.requires.stands in
    let over = c.requires.no_higher in
    heap_made g.Q.Core.least c.args.height c.args.leaves (first_row (quad_set (g.Q.Core.worker c.args.q.now) c.args.line)) c.args.xs.now c.spread.new.xs c.mark.new.xs (omega (arith, low, over)) c.requires.leaves c.requires.zeros c.spread.ensures.adds c.mark.ensures
