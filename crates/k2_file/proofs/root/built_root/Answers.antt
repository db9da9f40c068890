-- A tree over the leaves is as high as the file; and otherwise one leaf holds it.
use Rattle.std.proofs.Common.{◌≡◌, ◌≤◌, ◌-◌, ◌^◌, ◌∙◌, true, sym, ap, subst, arith}
use Rattle.std.specs.Prelude.{IfOk}
use Rattle.rel_model.specs.Cells.{Cells}
use Rattle.rel_model.specs.Roots.{height_over}
use Rattle.rel_model.specs.Worker.{GivesQuad, MakesAtMost, listed_room}
use Rattle.rel_model.proofs.Heights.{height_over-low}
use Rattle.run_model.specs.Files.{number_of_bit}
use Rattle.k2_file.specs.Told.{bits_in}
use Rattle.k2_file.specs.Rests.{AreThere, count_below, cells_of_part, cells_inside, rests_at}
use Rattle.k2_file.proofs.WriteHeights.{file_height-tree, file_height-leaf, file_height-high}
use Rattle.k2_file.proofs.ReadStarts.{length-rests}
use Rattle.k2_file.proofs.ReadRests.{count-some}
use Rattle.k2_file.proofs.ReadBuilding.{none-inside, part-inside, some-room, high-top}
use Rattle.k2_file.proofs.root.built_root.Goals as goal

pub built_part-requires-clause-high : goal.built_part-requires-clause-high
built_part-requires-clause-high g c = omega (arith, c.requires.height, file_height-high c.args.shape.rows c.args.shape.cols)

pub built_part-requires-clause-low : goal.built_part-requires-clause-low
built_part-requires-clause-low g c =
    let m = c.args.shape.rows in
    let n = c.args.shape.cols in
    let least = g.E.Core.least in
    let top : c.height_of_tree.result ≡ height_over least m n = c.height_of_tree.ensures ∙ ap (λ k. height_over k m n) c.bottom-low.ensures in
    let tree = file_height-tree least m n (omega (arith, top, c.bottom-low.ensures, c.if-low-height_of_tree.true)) in
    omega (arith, top, tree, c.requires.height, c.bottom-low.ensures, c.if-low-height_of_tree.true)

pub returns-then-low-height_of_tree-clause-value : goal.returns-then-low-height_of_tree-clause-value
returns-then-low-height_of_tree-clause-value g c =
    let m = c.args.shape.rows in
    let n = c.args.shape.cols in
    let least = g.E.Core.least in
    let T = bits_in c.args.parts.now.tree in
    let L = bits_in c.args.parts.now.cells in
    let rests = rests_at T L c.args.places.now in
    let w = g.E.Core.worker c.built_part.new.engine in
    let top : c.height_of_tree.result ≡ height_over least m n = c.height_of_tree.ensures ∙ ap (λ k. height_over k m n) c.bottom-low.ensures in
    let tree : height_over least m n ≡ c.args.height = file_height-tree least m n (omega (arith, top, c.bottom-low.ensures, c.if-low-height_of_tree.true)) ∙ sym c.requires.height in
    let s = part-inside (height_over least m n) c.args.is_set rests (length-rests T L c.args.places.now ∙ c.requires.places ∙ sym tree) in
    subst (λ (f : Cells). IfOk c.built_part.result (GivesQuad w (height_over least m n) f)) (sym s)
    (subst (λ k. IfOk c.built_part.result (GivesQuad w k (cells_of_part c.args.is_set rests))) (sym tree) c.built_part.ensures.makes.value)

pub returns-then-low-height_of_tree-clause-few : goal.returns-then-low-height_of_tree-clause-few
returns-then-low-height_of_tree-clause-few g c =
    let m = c.args.shape.rows in
    let n = c.args.shape.cols in
    let least = g.E.Core.least in
    let rests = rests_at (bits_in c.args.parts.now.tree) (bits_in c.args.parts.now.cells) c.args.places.now in
    let top : c.height_of_tree.result ≡ height_over least m n = c.height_of_tree.ensures ∙ ap (λ k. height_over k m n) c.bottom-low.ensures in
    let tree : height_over least m n ≡ c.args.height = file_height-tree least m n (omega (arith, top, c.bottom-low.ensures, c.if-low-height_of_tree.true)) ∙ sym c.requires.height in
    subst (λ k. MakesAtMost (listed_room (count_below (number_of_bit c.args.is_set) rests) (k - least)) (g.E.Core.worker c.args.engine.now) (g.E.Core.worker c.built_part.new.engine)) (sym tree) c.built_part.ensures.makes.room

pub returns-then-not-is_set-clause-value : goal.returns-then-not-is_set-clause-value
returns-then-not-is_set-clause-value g c =
    let m = c.args.shape.rows in
    let n = c.args.shape.cols in
    let least = g.E.Core.least in
    let w = g.E.Core.worker c.args.engine.now in
    let rests = rests_at (bits_in c.args.parts.now.tree) (bits_in c.args.parts.now.cells) c.args.places.now in
    let top : c.height_of_tree.result ≡ height_over least m n = c.height_of_tree.ensures ∙ ap (λ k. height_over k m n) c.bottom-low.ensures in
    let e : height_over least m n ≡ c.bottom-low.result = omega (arith, top, c.bottom-low.ensures, c.if-low-height_of_tree.false, height_over-low least m n) in
    let low : least ≤ c.bottom-low.result = omega (arith, c.bottom-low.ensures) in
    let high : c.bottom-low.result ≤ 24 = omega (arith, c.bottom-low.ensures, g.met.E.Quads.least_limit) in
    none-inside w (height_over least m n) c.bottom-low.result c.args.is_set rests e c.if-not-is_set.true (g.met.E.Quads.none c.args.engine.now c.bottom-low.result low (high-top c.bottom-low.result high))

pub built_leaf-requires-clause-low : goal.built_leaf-requires-clause-low
built_leaf-requires-clause-low g c =
    let m = c.args.shape.rows in
    let n = c.args.shape.cols in
    let least = g.E.Core.least in
    let top : c.height_of_tree.result ≡ height_over least m n = c.height_of_tree.ensures ∙ ap (λ k. height_over k m n) c.bottom-low.ensures in
    let e : height_over least m n ≡ least = omega (arith, top, c.bottom-low.ensures, c.if-low-height_of_tree.false, height_over-low least m n) in
    let f = file_height-leaf least m n g.met.E.Quads.least_limit e in
    omega (arith, f, c.requires.height)

pub returns-clause-value : goal.returns-clause-value
returns-clause-value g c =
    let m = c.args.shape.rows in
    let n = c.args.shape.cols in
    let least = g.E.Core.least in
    let w = g.E.Core.worker c.built_leaf.new.engine in
    let rests = rests_at (bits_in c.args.parts.now.tree) (bits_in c.args.parts.now.cells) c.args.places.now in
    let top : c.height_of_tree.result ≡ height_over least m n = c.height_of_tree.ensures ∙ ap (λ k. height_over k m n) c.bottom-low.ensures in
    let e : least ≡ height_over least m n = omega (arith, top, c.bottom-low.ensures, c.if-low-height_of_tree.false, height_over-low least m n) in
    subst (λ b. IfOk c.built_leaf.result (GivesQuad w (height_over least m n) (cells_inside (2 ^ height_over least m n) (cells_of_part b rests)))) (sym c.if-not-is_set.false)
    (subst (λ k. IfOk c.built_leaf.result (GivesQuad w k (cells_inside (2 ^ k) (cells_of_part true rests)))) e c.built_leaf.ensures.value)

pub returns-clause-few : goal.returns-clause-few
returns-clause-few g c =
    let m = c.args.shape.rows in
    let n = c.args.shape.cols in
    let rests = rests_at (bits_in c.args.parts.now.tree) (bits_in c.args.parts.now.cells) c.args.places.now in
    let there = subst (λ b. AreThere (number_of_bit b) rests) c.if-not-is_set.false c.requires.there in
    let some = count-some 1 rests there in
    let same : count_below (number_of_bit c.args.is_set) rests ≡ count_below 1 rests = ap (λ b. count_below (number_of_bit b) rests) c.if-not-is_set.false in
    let room = some-room (count_below (number_of_bit c.args.is_set) rests) (height_over g.E.Core.least m n - g.E.Core.least) (omega (arith, some, same)) in
    omega (arith, room, c.built_leaf.ensures.few)
