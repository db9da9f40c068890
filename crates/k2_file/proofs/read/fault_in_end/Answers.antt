-- The end's tests, one by one.
use Rattle.std.proofs.Common.{◌∙◌, sym}
use Rattle.k2_file.proofs.ReadListed.{AreParts, end-tree, end-cells, end-rest, end-none}
use Rattle.k2_file.proofs.read.fault_in_end.Goals as goal

pub returns-then-padding-ne0 : goal.returns-then-padding-ne0
returns-then-padding-ne0 c =
    let parts : AreParts c.args.bytes.now c.args.header.now c.args.tree.now.count c.args.tree.now.bytes.now c.args.cells.now.count c.args.cells.now.bytes.now =
    record { numbers = c.requires.fields; tree_same = c.requires.tree; tree_bytes = c.requires.tree_bytes; cells_same = c.requires.cells; cell_bytes = c.requires.cell_bytes } in
    sym (end-tree _ _ _ _ _ _ parts (λ e. c.if-padding-ne0.true (c.padding.ensures ∙ e)))

pub returns-then-padding-ne0-2 : goal.returns-then-padding-ne0-2
returns-then-padding-ne0-2 c =
    let parts : AreParts c.args.bytes.now c.args.header.now c.args.tree.now.count c.args.tree.now.bytes.now c.args.cells.now.count c.args.cells.now.bytes.now =
    record { numbers = c.requires.fields; tree_same = c.requires.tree; tree_bytes = c.requires.tree_bytes; cells_same = c.requires.cells; cell_bytes = c.requires.cell_bytes } in
    sym (end-cells _ _ _ _ _ _ parts (sym c.padding.ensures ∙ c.if-padding-ne0.false) (λ e. c.if-padding-ne0-2.true (c.padding-2.ensures ∙ e)))

pub returns-then-bytes-end : goal.returns-then-bytes-end
returns-then-bytes-end c =
    let parts : AreParts c.args.bytes.now c.args.header.now c.args.tree.now.count c.args.tree.now.bytes.now c.args.cells.now.count c.args.cells.now.bytes.now =
    record { numbers = c.requires.fields; tree_same = c.requires.tree; tree_bytes = c.requires.tree_bytes; cells_same = c.requires.cells; cell_bytes = c.requires.cell_bytes } in
    sym (end-rest _ _ _ _ _ _ parts (sym c.padding.ensures ∙ c.if-padding-ne0.false) (sym c.padding-2.ensures ∙ c.if-padding-ne0-2.false)
    (λ e. c.if-bytes-end.true (e ∙ sym c.end.ensures)))

pub returns : goal.returns
returns c =
    let parts : AreParts c.args.bytes.now c.args.header.now c.args.tree.now.count c.args.tree.now.bytes.now c.args.cells.now.count c.args.cells.now.bytes.now =
    record { numbers = c.requires.fields; tree_same = c.requires.tree; tree_bytes = c.requires.tree_bytes; cells_same = c.requires.cells; cell_bytes = c.requires.cell_bytes } in
    sym (end-none _ _ _ _ _ _ parts (sym c.padding.ensures ∙ c.if-padding-ne0.false) (sym c.padding-2.ensures ∙ c.if-padding-ne0-2.false)
    (c.if-bytes-end.false ∙ c.end.ensures))
