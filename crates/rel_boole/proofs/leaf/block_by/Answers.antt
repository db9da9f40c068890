use Rattle.std.proofs.Common.{sym, ap, ◌∙◌}
use Rattle.rel_model.specs.Cells.{block_cells}
use Rattle.rel_boole.specs.declared.boole.Boole.{Boole}
use Rattle.rel_boole.specs.Cellwise.{cells_by}
use Rattle.rel_boole.proofs.leaf.block_by.Goals as goal

pub returns-in-Union : goal.returns-in-Union
returns-in-Union c = c.block_union.ensures ∙ ap (λ (o : Boole). cells_by o (block_cells c.args.a) (block_cells c.args.b)) (sym c.in-Union.is)

pub returns-in-Inter : goal.returns-in-Inter
returns-in-Inter c = c.block_inter.ensures ∙ ap (λ (o : Boole). cells_by o (block_cells c.args.a) (block_cells c.args.b)) (sym c.in-Inter.is)

pub returns-in-Diff : goal.returns-in-Diff
returns-in-Diff c = c.block_diff.ensures ∙ ap (λ (o : Boole). cells_by o (block_cells c.args.a) (block_cells c.args.b)) (sym c.in-Diff.is)
