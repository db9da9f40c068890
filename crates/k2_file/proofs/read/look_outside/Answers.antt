-- Sizes as great as the side leave no cell outside; and bits that fit are few.
use Rattle.std.proofs.Common.{◌≡◌, ◌+◌, ◌-◌, ◌<◌, ◌≤◌, ◌^◌, ◌∙◌, suc, length, sym, subst, ap, arith}
use Rattle.k2_file.specs.Told.{bits_told, groups_of}
use Rattle.k2_file.proofs.ReadBits.{length-told}
use Rattle.k2_file.proofs.ReadLevels.{fit-few, groups-few}
use Rattle.k2_file.proofs.ReadStarts.{square-inside}
use Rattle.k2_file.proofs.read.look_outside.Goals as goal

pub returns-then-side-header-2-clause-inside : goal.returns-then-side-header-2-clause-inside
returns-then-side-header-2-clause-inside c =
    let h = c.args.header.now in
    let tree = c.args.tree.now in
    let cells = c.args.cells.now in
    let up : suc (h.height - 1) ≡ h.height = omega (arith, c.requires.least) in
    let side : 2 ^ suc (h.height - 1) ≡ c.side_of-side.result = ap (λ n. 2 ^ n) up ∙ sym c.side_of-side.ensures in
    square-inside h.rows h.cols h.tree_count (h.height - 1) (groups_of h.tree_count h.cell_count) (bits_told tree.count tree.bytes.now) (bits_told cells.count cells.bytes.now)
    (subst (λ n. n ≤ h.rows) (sym side) c.if-side-header.true) (subst (λ n. n ≤ h.cols) (sym side) c.if-side-header-2.true)

pub first_outside-requires-clause-numbers : goal.first_outside-requires-clause-numbers
first_outside-requires-clause-numbers c =
    let tree = c.args.tree.now in
    let header = c.args.header.now in
    let xs = bits_told tree.count tree.bytes.now in
    let n = length-told tree.count tree.bytes.now tree.fits in
    let few : length xs + header.cell_count < 2 ^ 50 =
    fit-few (header.height - 1) (groups_of header.tree_count header.cell_count) xs header.cell_count c.requires.fit (omega (arith, c.requires.least, c.requires.top))
    (groups-few header.tree_count header.cell_count) in
    let same = ap length c.as_slice.ensures.value in
    omega (arith, n, few, same, c.requires.tree, c.in-Ok.ensures.count)
