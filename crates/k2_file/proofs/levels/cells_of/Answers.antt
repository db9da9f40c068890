-- The walk, level by level, ends at the cells.
use Rattle.std.proofs.Common.{◌≡◌, ◌+◌, ◌-◌, ◌*◌, ◌^◌, ◌∙◌, ℕ, suc, take, drop, length, sym, ap, subst, refl, arith}
use Rattle.std.specs.List.{flat_map}
use Rattle.run_model.specs.Files.{whole, quarters, chosen}
use Rattle.k2_file.specs.Told.{bits_told, groups_of, told_by, AreInside}
use Rattle.k2_file.proofs.ReadBits.{length-told}
use Rattle.k2_file.proofs.ReadWalk.{IsWalk, walk-start, walk-bits, walk-next, walk-inside, walk-cell, walk-cells, walk-count}
use Rattle.k2_file.proofs.levels.cells_of.Goals as goal

pub levels-init : goal.levels-init
levels-init c =
    let header = c.args.header.now in
    let groups = groups_of header.tree_count header.cell_count in
    let xs = bits_told c.args.tree.now.count c.args.tree.now.bytes.now in
    walk-start (header.height - 1) groups header.cell_count xs (told_by header xs) c.in_ok-corners.corners.items (omega (arith, c.requires.least, c.requires.top))
    (omega (arith, c.groups.ensures.value, c.groups.ensures.limit)) c.requires.fit refl (c.in_ok-corners.ensures ∙ ap (λ (n : ℕ). take n whole) c.groups.ensures.value)

pub overflow_mul-width : goal.overflow_mul-width
overflow_mul-width c =
    let tree = c.args.tree.now in
    let header = c.args.header.now in
    let xs = bits_told tree.count tree.bytes.now in
    let n = length-told tree.count tree.bytes.now tree.fits in
    let room = walk-bits (told_by header xs) header.cell_count xs (header.height - c.levels.done) c.levels.corners.items c.levels.from c.levels.invariant (omega arith) in
    omega (arith, n, room)

pub next_level-requires-clause-inside : goal.next_level-requires-clause-inside
next_level-requires-clause-inside c =
    let tree = c.args.tree.now in
    let header = c.args.header.now in
    let xs = bits_told tree.count tree.bytes.now in
    subst (λ ps. AreInside (2 ^ (header.height - c.levels.done)) ps) (sym c.as_slice.ensures.value)
    (walk-inside (told_by header xs) header.cell_count xs (header.height - c.levels.done) c.levels.corners.items c.levels.from c.levels.invariant)

pub next_level-requires-clause-bits : goal.next_level-requires-clause-bits
next_level-requires-clause-bits c =
    let tree = c.args.tree.now in
    let header = c.args.header.now in
    let xs = bits_told tree.count tree.bytes.now in
    let n = length-told tree.count tree.bytes.now tree.fits in
    let room = walk-bits (told_by header xs) header.cell_count xs (header.height - c.levels.done) c.levels.corners.items c.levels.from c.levels.invariant (omega arith) in
    omega (arith, n, room)

pub overflow_add-from : goal.overflow_add-from
overflow_add-from c =
    let tree = c.args.tree.now in
    let header = c.args.header.now in
    let xs = bits_told tree.count tree.bytes.now in
    let n = length-told tree.count tree.bytes.now tree.fits in
    let room = walk-bits (told_by header xs) header.cell_count xs (header.height - c.levels.done) c.levels.corners.items c.levels.from c.levels.invariant (omega arith) in
    omega (arith, n, room)

pub levels-preserved : goal.levels-preserved
levels-preserved c =
    let tree = c.args.tree.now in
    let header = c.args.header.now in
    let xs = bits_told tree.count tree.bytes.now in
    let ps = c.levels.corners.items in
    let next = c.in_ok-corners-2.corners.items in
    let k = header.height - c.levels.done in
    let j = header.height - (c.levels.done + 1) in
    let e : k ≡ suc j = omega (arith, c.levels-test.true) in
    let many : length ps ≡ c.len.result = omega (arith, ap length c.as_slice.ensures.value, c.as_slice.ensures.len, c.len.ensures) in
    let is : next ≡ chosen (flat_map (quarters (2 ^ k)) ps) (drop c.levels.from xs) =
    c.in_ok-corners-2.ensures ∙ ap (λ qs. chosen (flat_map (quarters (2 ^ k)) qs) (drop c.levels.from xs)) c.as_slice.ensures.value in
    subst (λ (n : ℕ). IsWalk (told_by header xs) header.cell_count xs j next (c.levels.from + 4 * n)) many
    (walk-next (told_by header xs) header.cell_count xs k j ps next c.levels.from c.levels.invariant e is)

pub quarters_of-requires : goal.quarters_of-requires
quarters_of-requires c =
    let tree = c.args.tree.now in
    let header = c.args.header.now in
    let xs = bits_told tree.count tree.bytes.now in
    subst (λ ps. AreInside 1 ps) (sym c.as_slice-2.ensures.value)
    (walk-cell (told_by header xs) header.cell_count xs (header.height - c.levels.done) c.levels.corners.items c.levels.from c.levels.invariant (omega (arith, c.levels-test.false)))

pub returns-clause-cells : goal.returns-clause-cells
returns-clause-cells c =
    let tree = c.args.tree.now in
    let header = c.args.header.now in
    let xs = bits_told tree.count tree.bytes.now in
    c.in_ok-cells.ensures ∙ ap (λ ps. flat_map (quarters 1) ps) c.as_slice-2.ensures.value
    ∙ walk-cells (told_by header xs) header.cell_count xs (header.height - c.levels.done) c.levels.corners.items c.levels.from c.levels.invariant (omega (arith, c.levels-test.false))

pub returns-clause-count : goal.returns-clause-count
returns-clause-count c =
    let tree = c.args.tree.now in
    let header = c.args.header.now in
    let xs = bits_told tree.count tree.bytes.now in
    ap length (c.in_ok-cells.ensures ∙ ap (λ ps. flat_map (quarters 1) ps) c.as_slice-2.ensures.value)
    ∙ walk-count (told_by header xs) header.cell_count xs (header.height - c.levels.done) c.levels.corners.items c.levels.from c.levels.invariant (omega (arith, c.levels-test.false))
