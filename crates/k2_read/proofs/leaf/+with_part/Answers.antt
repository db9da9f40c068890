-- Each quarter puts its cells at its corner.
use Rattle.std.proofs.Common.{rules, ◌≡◌, ◌≢◌, ◌<◌, ◌+◌, ◌-◌, ◌^◌, ◌∙◌, ℕ, sym, ap, subst, arith}
use Rattle.std.proofs.lemmas.List.{length-map}
use Rattle.rel_model.specs.Cells.{Cells, cells_union, bits_cells}
use Rattle.run_model.specs.SharedFiles.{cells_told}
use Rattle.run_model.proofs.SharedCells.{IsNumber, zero_cells, cells_within, two-halves}
use Rattle.k2_parts.specs.Told.{quadrant_told, quadrants_told}
use Rattle.k2_read.specs.Leaves.{placed}
use Rattle.k2_read.proofs.Leaves.{quarters-placed, none-placed, cell-placed}
use Rattle.k2_read.proofs.Numbers.{AreNumbers, number-below, number-listed, number-cell, parts-numbers, parts-cells}
use Rattle.k2_read.proofs.leaf.+with_part.Goals.{After-quarters-quadrant}
use Rattle.k2_read.proofs.leaf.+with_part.Goals as goal

numbers : (t : ℕ) (c : After-quarters-quadrant t) → AreNumbers (quadrants_told c.args.quads.now) (c.args.height - 1) (quadrant_told c.quarters-quadrant.result)
numbers t c =
    parts-numbers (quadrants_told c.args.quads.now) c.args.height c.args.number (quadrant_told c.quarters-quadrant.result) c.quarters-quadrant.ensures c.requires.number c.if-height-eq0.false c.if-number-eq0.false

double : (h : ℕ) → h ≢ 0 → 2 ^ (h - 1) + 2 ^ (h - 1) ≡ 2 ^ h
double h some = let up = two-halves (h - 1) in up ∙ ap (λ (x : ℕ). 2 ^ x) (omega (arith, some))

pub returns-then-number-eq0-clause-cells : goal.returns-then-number-eq0-clause-cells
returns-then-number-eq0-clause-cells t c =
    let quads = quadrants_told c.args.quads.now in
    none-placed c.args.side c.args.corner.0 c.args.corner.1 (bits_cells c.args.side c.args.word) (cells_told quads c.args.height c.args.number)
    (ap (cells_told quads c.args.height) c.if-number-eq0.true ∙ zero_cells quads c.args.height)

pub returns-then-height-eq0-clause-cells : goal.returns-then-height-eq0-clause-cells
returns-then-height-eq0-clause-cells t c =
    let quads = quadrants_told c.args.quads.now in
    let one = number-cell quads c.args.number (subst (λ h. IsNumber quads h c.args.number) c.if-height-eq0.true c.requires.number) c.if-number-eq0.false in
    c.with_cell.ensures.cells
    ∙ ap (cells_union (bits_cells c.args.side c.args.word)) (cell-placed c.args.side c.args.corner.0 c.args.corner.1 c.args.number one)
    ∙ ap (λ h. cells_union (bits_cells c.args.side c.args.word) (placed c.args.side c.args.corner.0 c.args.corner.1 (cells_told quads h c.args.number))) (sym c.if-height-eq0.true)

pub quarters-quadrant-requires-clause-low : goal.quarters-quadrant-requires-clause-low
quarters-quadrant-requires-clause-low t c = number-listed (quadrants_told c.args.quads.now) c.args.height c.args.number c.requires.number c.if-height-eq0.false c.if-number-eq0.false

pub quarters-quadrant-requires-clause-high : goal.quarters-quadrant-requires-clause-high
quarters-quadrant-requires-clause-high t c =
    let l = number-below (quadrants_told c.args.quads.now) c.args.height c.args.number c.requires.number in
    let m = length-map c.args.quads.now quadrant_told in
    omega (arith, l, m)

pub with_part-first-requires : goal.with_part-first-requires
with_part-first-requires t c =
    let n = numbers t (goal.at.with_part-first-requires t c).After-quarters-quadrant in
    let two = double c.args.height c.if-height-eq0.false in
    let falls : c.args.height - 1 < t = search (rules, c.if-height-eq0.false) in
    (falls, (omega (arith, c.requires.low), (c.requires.side, (omega (arith, c.requires.row, two), (omega (arith, c.requires.col, two), (n.nw_is, c.requires.none_past))))))

pub with_part-second-requires : goal.with_part-second-requires
with_part-second-requires t c =
    let n = numbers t (goal.at.with_part-second-requires t c).After-quarters-quadrant in
    let two = double c.args.height c.if-height-eq0.false in
    let half = c.small_side-half.ensures in
    let falls : c.args.height - 1 < t = search (rules, c.if-height-eq0.false) in
    (falls, (omega (arith, c.requires.low), (c.requires.side, (omega (arith, c.requires.row, two), (omega (arith, c.requires.col, two, half), (n.ne_is, c.with_part-first.ensures.none_past))))))

pub with_part-third-requires : goal.with_part-third-requires
with_part-third-requires t c =
    let n = numbers t (goal.at.with_part-third-requires t c).After-quarters-quadrant in
    let two = double c.args.height c.if-height-eq0.false in
    let half = c.small_side-half.ensures in
    let falls : c.args.height - 1 < t = search (rules, c.if-height-eq0.false) in
    (falls, (omega (arith, c.requires.low), (c.requires.side, (omega (arith, c.requires.row, two, half), (omega (arith, c.requires.col, two), (n.sw_is, c.with_part-second.ensures.none_past))))))

pub with_part-requires : goal.with_part-requires
with_part-requires t c =
    let n = numbers t (goal.at.with_part-requires t c).After-quarters-quadrant in
    let two = double c.args.height c.if-height-eq0.false in
    let half = c.small_side-half.ensures in
    let falls : c.args.height - 1 < t = search (rules, c.if-height-eq0.false) in
    (falls, (omega (arith, c.requires.low), (c.requires.side, (omega (arith, c.requires.row, two, half), (omega (arith, c.requires.col, two, half), (n.se_is, c.with_part-third.ensures.none_past))))))

pub returns-clause-cells : goal.returns-clause-cells
returns-clause-cells t c =
    let quads = quadrants_told c.args.quads.now in
    let h = c.args.height - 1 in
    let q = c.quarters-quadrant.result in
    let s = c.args.side in
    let w = bits_cells s c.args.word in
    quarters-placed (2 ^ h) (cells_told quads h q.nw) (cells_told quads h q.ne) (cells_told quads h q.sw) (cells_told quads h q.se)
    (cells_within quads h q.nw) (cells_within quads h q.ne) (cells_within quads h q.sw) s c.args.corner.0 c.args.corner.1 c.small_side-half.result
    w (bits_cells s c.with_part-first.result) (bits_cells s c.with_part-second.result) (bits_cells s c.with_part-third.result) (bits_cells s c.with_part.result)
    c.small_side-half.ensures c.with_part-first.ensures.cells c.with_part-second.ensures.cells c.with_part-third.ensures.cells c.with_part.ensures.cells
    ∙ ap (λ (f : Cells). cells_union w (placed s c.args.corner.0 c.args.corner.1 f)) (sym (parts-cells quads c.args.height c.args.number (quadrant_told q) c.quarters-quadrant.ensures c.if-height-eq0.false))
