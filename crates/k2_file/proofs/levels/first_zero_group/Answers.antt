-- Each group with a set bit is passed over.
use Rattle.std.proofs.Common.{◌≡◌, ◌+◌, ◌*◌, ◌<◌, ◌≤◌, ◌++◌, ◌∙◌, ℕ, length, drop, sym, ap, arith}
use Rattle.std.proofs.lemmas.List.{length-append}
use Rattle.run_model.specs.Files.{zero_group}
use Rattle.k2_file.specs.Told.{bits_told}
use Rattle.k2_file.proofs.ReadBits.{length-told}
use Rattle.k2_file.proofs.ReadGroups.{group-more, group-here, group-end}
use Rattle.k2_file.proofs.levels.first_zero_group.Goals as goal

pub returns-then-not-has_set : goal.returns-then-not-has_set
returns-then-not-has_set c =
    let tree = c.args.tree.now in
    let cells = c.args.cells.now in
    let xs = bits_told tree.count tree.bytes.now in
    let ys = bits_told cells.count cells.bytes.now in
    let n = length-told tree.count tree.bytes.now tree.fits in
    let m = length-told cells.count cells.bytes.now cells.fits in
    let l : 4 * c.groups.group + 4 ≤ length (xs ++ ys) = omega (arith, n, m, length-append xs ys, c.groups-test.true) in
    sym (c.groups.invariant ∙ group-here (xs ++ ys) (4 * c.groups.group) l (sym c.if-not-has_set.ensures))

pub groups-preserved : goal.groups-preserved
groups-preserved c =
    let tree = c.args.tree.now in
    let cells = c.args.cells.now in
    let xs = bits_told tree.count tree.bytes.now in
    let ys = bits_told cells.count cells.bytes.now in
    let n = length-told tree.count tree.bytes.now tree.fits in
    let m = length-told cells.count cells.bytes.now cells.fits in
    let l : 4 * c.groups.group + 4 ≤ length (xs ++ ys) = omega (arith, n, m, length-append xs ys, c.groups-test.true) in
    let e : 4 * c.groups.group + 4 ≡ 4 * (c.groups.group + 1) = omega arith in
    c.groups.invariant ∙ group-more (xs ++ ys) (4 * c.groups.group) l (sym c.if-not-has_set.ensures)
    ∙ ap (λ (k : ℕ). zero_group k (drop k (xs ++ ys))) e

pub returns : goal.returns
returns c =
    let tree = c.args.tree.now in
    let cells = c.args.cells.now in
    let xs = bits_told tree.count tree.bytes.now in
    let ys = bits_told cells.count cells.bytes.now in
    let n = length-told tree.count tree.bytes.now tree.fits in
    let m = length-told cells.count cells.bytes.now cells.fits in
    let l : length (xs ++ ys) < 4 * c.groups.group + 4 = omega (arith, n, m, length-append xs ys, c.groups-test.false) in
    sym (c.groups.invariant ∙ group-end (xs ++ ys) (4 * c.groups.group) l)
