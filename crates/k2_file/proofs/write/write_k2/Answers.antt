use Rattle.std.proofs.Common.{◌∙◌, ap}
use Rattle.rel_model.specs.Worker.{set_of}
use Rattle.rel_model.proofs.Workers.{keeps_set}
use Rattle.run_model.specs.Files.{tree_part, cell_part}
use Rattle.k2_file.proofs.WriteHeights.{file_height-sizes}
use Rattle.k2_file.proofs.WriteBytes.{file-bytes}
use Rattle.k2_file.proofs.write.write_k2.Goals as goal

pub returns-clause-text : goal.returns-clause-text
returns-clause-text g c =
    let w = g.E.Core.worker c.args.engine.now in
    let R = set_of w c.args.rel in
    let rows = g.met.E.Core.row_size c.args.engine.now c.args.rel c.requires in
    let cols = g.met.E.Core.col_size c.args.engine.now c.args.rel c.requires in
    let same = keeps_set w (g.E.Core.worker c.count_bits.new.engine) c.args.rel c.in_ok-bits.ensures.keeps c.requires in
    c.in_ok-out.ensures ∙ file-bytes R c.args.rel.rows c.args.rel.cols c.height_of_file-height.result c.in_ok-parts.parts.tree.items c.in_ok-parts.parts.cells.items rows cols
    (file_height-sizes c.height_of_file-height.result c.args.rel.rows c.args.rel.cols R.rows R.cols c.height_of_file-height.ensures.value rows cols)
    (c.in_ok-parts.ensures.tree ∙ ap tree_part same) (c.in_ok-parts.ensures.cells ∙ ap cell_part same)
