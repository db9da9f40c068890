-- A place before the end of T is one of T, and else one of L.
use Rattle.std.proofs.Common.{◌≡◌, ◌∙◌, length, false, sym, arith}
use Rattle.std.proofs.Math.ListN.{get_or-append}
use Rattle.std.proofs.lemmas.List.{get_or-append_right}
use Rattle.k2_file.specs.Told.{bits_told}
use Rattle.k2_file.proofs.ReadBits.{length-told}
use Rattle.k2_file.proofs.levels.is_set_of.Goals as goal

pub returns-then-place-tree : goal.returns-then-place-tree
returns-then-place-tree c =
    let tree = c.args.tree.now in
    let cells = c.args.cells.now in
    let xs = bits_told tree.count tree.bytes.now in
    let n : length xs ≡ tree.count = length-told tree.count tree.bytes.now tree.fits in
    c.is_set.ensures ∙ sym (get_or-append xs (bits_told cells.count cells.bytes.now) false c.args.place (omega arith))

pub returns-else-place-tree : goal.returns-else-place-tree
returns-else-place-tree c =
    let tree = c.args.tree.now in
    let cells = c.args.cells.now in
    let xs = bits_told tree.count tree.bytes.now in
    let n : length xs ≡ tree.count = length-told tree.count tree.bytes.now tree.fits in
    c.is_set-else-place-tree.ensures
    ∙ sym (get_or-append_right xs (bits_told cells.count cells.bytes.now) tree.count c.args.place false n (omega arith))
