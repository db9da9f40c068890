-- The groups of tests, one by one; where all pass, the pairs are the file's.
use Rattle.std.proofs.Common.{◌≡◌, ◌+◌, ◌-◌, ◌<◌, ◌^◌, ◌∙◌, length, None, sym, ap, arith}
use Rattle.run_model.specs.declared.outcome.BadFile.TheVariants.{Outside}
use Rattle.run_model.specs.Files.{found_at, cell_outside}
use Rattle.k2_file.specs.Told.{bits_told, groups_of, told_by, outside_fault}
use Rattle.k2_file.proofs.ReadBits.{length-told}
use Rattle.k2_file.proofs.ReadFaults.{level_fault, fault-header, fault-levels, fault-outside, fault-end, fault-moves, is-fault}
use Rattle.k2_file.proofs.ReadLevels.{fit-few, groups-few, levels-good, levels-whole}
use Rattle.k2_file.proofs.ReadListed.{AreParts, levels-told, outside-told, pairs-told}
use Rattle.k2_file.proofs.read.read_form.Goals as goal

pub returns-in-Err-clause-fault : goal.returns-in-Err-clause-fault
returns-in-Err-clause-fault c =
    let bytes = c.args.bytes.now in is-fault bytes c.in-Err.fault (fault-header bytes c.in-Err.fault (sym c.in-Err.ensures.fault))

pub returns-in-Some-clause-fault : goal.returns-in-Some-clause-fault
returns-in-Some-clause-fault c =
    let bytes = c.args.bytes.now in
    let h = c.in-Ok.header in
    let tree = c.tree-tree.result in
    let cells = c.cells-cells.result in
    let parts : AreParts bytes h tree.count tree.bytes.now cells.count cells.bytes.now =
    record { numbers = c.in-Ok.ensures.header.numbers; tree_same = c.tree-tree.ensures.count; tree_bytes = c.tree-tree.ensures.bytes; cells_same = c.cells-cells.ensures.count; cell_bytes = c.cells-cells.ensures.bytes } in
    is-fault bytes c.in-Some.fault (fault-levels bytes c.in-Some.fault (sym c.in-Ok.ensures.fault) (levels-told _ _ _ _ _ _ parts ∙ sym c.in-Some.ensures))

pub returns-in-Err-look_outside-clause-fault : goal.returns-in-Err-look_outside-clause-fault
returns-in-Err-look_outside-clause-fault c =
    let bytes = c.args.bytes.now in
    let h = c.in-Ok.header in
    let tree = c.tree-tree.result in
    let cells = c.cells-cells.result in
    let parts : AreParts bytes h tree.count tree.bytes.now cells.count cells.bytes.now =
    record { numbers = c.in-Ok.ensures.header.numbers; tree_same = c.tree-tree.ensures.count; tree_bytes = c.tree-tree.ensures.bytes; cells_same = c.cells-cells.ensures.count; cell_bytes = c.cells-cells.ensures.bytes } in
    let xs = bits_told tree.count tree.bytes.now in
    let ys = bits_told cells.count cells.bytes.now in
    let level : level_fault bytes ≡ None = levels-told _ _ _ _ _ _ parts ∙ sym c.in_default.ensures in
    fault-moves (found_at Outside (cell_outside h.rows h.cols h.tree_count (told_by h xs) ys)) _ c.in-Err-look_outside.fault
    (λ e f. fault-outside bytes e (sym c.in-Ok.ensures.fault) level (sym (outside-told _ _ _ _ _ _ parts) ∙ f))
    c.in-Err-look_outside.ensures.fault

pub fault_in_end-requires-clause-few : goal.fault_in_end-requires-clause-few
fault_in_end-requires-clause-few c =
    let h = c.in-Ok.header in
    let tree = c.tree-tree.result in
    let cells = c.cells-cells.result in
    let xs = bits_told tree.count tree.bytes.now in
    let ys = bits_told cells.count cells.bytes.now in
    let n = length-told tree.count tree.bytes.now tree.fits in
    let fit = levels-good h.height (groups_of h.tree_count h.cell_count) xs ys h.cell_count (sym c.in_default.ensures) in
    let few : length xs + h.cell_count < 2 ^ 50 =
    fit-few (h.height - 1) (groups_of h.tree_count h.cell_count) xs h.cell_count fit (omega (arith, c.in-Ok.ensures.header.least, c.in-Ok.ensures.header.top))
    (groups-few h.tree_count h.cell_count) in
    omega (arith, n, few, c.tree-tree.ensures.count)

pub returns-in-Some-fault_in_end-clause-fault : goal.returns-in-Some-fault_in_end-clause-fault
returns-in-Some-fault_in_end-clause-fault c =
    let bytes = c.args.bytes.now in
    let h = c.in-Ok.header in
    let tree = c.tree-tree.result in
    let cells = c.cells-cells.result in
    let parts : AreParts bytes h tree.count tree.bytes.now cells.count cells.bytes.now =
    record { numbers = c.in-Ok.ensures.header.numbers; tree_same = c.tree-tree.ensures.count; tree_bytes = c.tree-tree.ensures.bytes; cells_same = c.cells-cells.ensures.count; cell_bytes = c.cells-cells.ensures.bytes } in
    let level : level_fault bytes ≡ None = levels-told _ _ _ _ _ _ parts ∙ sym c.in_default.ensures in
    let outside : outside_fault bytes ≡ None = sym (outside-told _ _ _ _ _ _ parts) ∙ ap (found_at Outside) c.in_default-look_outside.ensures.inside in
    is-fault bytes c.in-Some-fault_in_end.fault (fault-end bytes (sym c.in-Ok.ensures.fault) level outside ∙ sym c.in-Some-fault_in_end.ensures)

pub returns-clause-form : goal.returns-clause-form
returns-clause-form c =
    let bytes = c.args.bytes.now in
    let h = c.in-Ok.header in
    let tree = c.tree-tree.result in
    let cells = c.cells-cells.result in
    let parts : AreParts bytes h tree.count tree.bytes.now cells.count cells.bytes.now =
    record { numbers = c.in-Ok.ensures.header.numbers; tree_same = c.tree-tree.ensures.count; tree_bytes = c.tree-tree.ensures.bytes; cells_same = c.cells-cells.ensures.count; cell_bytes = c.cells-cells.ensures.bytes } in
    let xs = bits_told tree.count tree.bytes.now in
    let ys = bits_told cells.count cells.bytes.now in
    let level : level_fault bytes ≡ None = levels-told _ _ _ _ _ _ parts ∙ sym c.in_default.ensures in
    let outside : outside_fault bytes ≡ None = sym (outside-told _ _ _ _ _ _ parts) ∙ ap (found_at Outside) c.in_default-look_outside.ensures.inside in
    record {
      good = fault-end bytes (sym c.in-Ok.ensures.fault) level outside ∙ sym c.in_default-fault_in_end.ensures;
      numbers = c.in-Ok.ensures.header.numbers;
      is_whole = record {
        row_limit = c.in-Ok.ensures.header.row_limit;
        col_limit = c.in-Ok.ensures.header.col_limit;
        height = c.in-Ok.ensures.header.is_height;
        tree = c.tree-tree.ensures.count;
        cells = c.cells-cells.ensures.count;
        fit = levels-good h.height (groups_of h.tree_count h.cell_count) xs ys h.cell_count (sym c.in_default.ensures);
        groups = levels-whole h.height (groups_of h.tree_count h.cell_count) xs ys h.cell_count (sym c.in_default.ensures);
        inside = c.in_default-look_outside.ensures.inside;
      };
      pairs = pairs-told _ _ _ _ _ _ parts;
    }
