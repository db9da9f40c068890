-- A tree over the leaves is as high as the file; and otherwise one leaf holds it.
use Rattle.std.proofs.Common.{◌≡◌, ◌-◌, ◌∙◌, sym, ap, subst, arith}
use Rattle.rel_model.specs.Roots.{height_over}
use Rattle.rel_model.proofs.Heights.{height_over-low, height_over-high}
use Rattle.std.specs.Prelude.{Ok}
use Rattle.rel_steps.specs.Making.{MakesQuad}
use Rattle.rel_steps.proofs.Making.{begun, stops}
use Rattle.run_model.specs.Files.{file_height}
use Rattle.run_model.specs.SharedFiles.{cells_told}
use Rattle.run_model.proofs.SharedCells.{IsNumber}
use Rattle.k2_file.proofs.ReadBuilding.{high-top}
use Rattle.k2_file.proofs.WriteHeights.{file_height-tree, file_height-leaf}
use Rattle.k2_parts.specs.Told.{quadrants_told}
use Rattle.k2_read.proofs.Making.{none-made, leaf-made, root-made, root-inside}
use Rattle.k2_read.proofs.Noted.{noted-later}
use Rattle.k2_read.proofs.Rooms.{room-leaf}
use Rattle.k2_read.proofs.root.built_root.Given.{Over}
use Rattle.k2_read.proofs.root.built_root.Goals.{After-height_of_tree-height, After-height_of_file-height}
use Rattle.k2_read.proofs.root.built_root.Goals as goal

-- the height of the tree
top : (g : Over) (c : After-height_of_tree-height g) → c.height_of_tree-height.result ≡ height_over g.E.Core.least c.args.root.shape.rows c.args.root.shape.cols
top g c = c.height_of_tree-height.ensures ∙ ap (λ k. height_over k c.args.root.shape.rows c.args.root.shape.cols) c.bottom-low.ensures

pub built-requires-clause-high : goal.built-requires-clause-high
built-requires-clause-high g c =
    let e = top g (goal.at.built-requires-clause-high g c).After-height_of_tree-height in
    let h = height_over-high g.E.Core.least c.args.root.shape.rows c.args.root.shape.cols (omega (arith, g.met.E.Quads.least_limit)) in
    omega (arith, e, h)

pub built-requires-clause-number : goal.built-requires-clause-number
built-requires-clause-number g c =
    let m = c.args.root.shape.rows in
    let n = c.args.root.shape.cols in
    let e = top g (goal.at.built-requires-clause-number g c).After-height_of_tree-height in
    let tree = file_height-tree g.E.Core.least m n (omega (arith, e, c.bottom-low.ensures, c.if-low-height.true)) in
    subst (λ k. IsNumber (quadrants_told c.args.quads.now) k c.args.root.number) (sym (e ∙ tree)) c.requires.sound.is_number

pub returns-then-low-height-clause-makes : goal.returns-then-low-height-clause-makes
returns-then-low-height-clause-makes g c =
    let m = c.args.root.shape.rows in
    let n = c.args.root.shape.cols in
    let e = top g (goal.at.returns-then-low-height-clause-makes g c).After-height_of_tree-height in
    let tree = file_height-tree g.E.Core.least m n (omega (arith, e, c.bottom-low.ensures, c.if-low-height.true)) in
    root-made (quadrants_told c.args.quads.now) g.E.Core.lean g.E.Core.least m n c.args.root.number c.height_of_tree-height.result _ _ c.built.result (e ∙ tree) e c.built.ensures.makes

pub returns-then-root-eq0-clause-makes : goal.returns-then-root-eq0-clause-makes
returns-then-root-eq0-clause-makes g c =
    let m = c.args.root.shape.rows in
    let n = c.args.root.shape.cols in
    let e = top g (goal.at.returns-then-root-eq0-clause-makes g c).After-height_of_tree-height in
    let low = height_over-low g.E.Core.least m n in
    let high = height_over-high g.E.Core.least m n (omega (arith, g.met.E.Quads.least_limit)) in
    let h = c.height_of_tree-height.result in
    none-made (quadrants_told c.args.quads.now) g.E.Core.lean _ h (height_over g.E.Core.least m n) (file_height m n) c.args.root.number (g.E.Core.worker c.args.engine.now) e c.if-root-eq0.true
    (g.met.E.Quads.none c.args.engine.now h (omega (arith, e, low)) (high-top h (omega (arith, e, high))))

-- ---- one leaf
-- the tree is as high as a leaf
flat : (g : Over) (c : After-height_of_file-height g) → height_over g.E.Core.least c.args.root.shape.rows c.args.root.shape.cols ≡ g.E.Core.least
flat g c =
    let e : c.height_of_tree-height.result ≡ height_over g.E.Core.least c.args.root.shape.rows c.args.root.shape.cols =
    c.height_of_tree-height.ensures ∙ ap (λ k. height_over k c.args.root.shape.rows c.args.root.shape.cols) c.bottom-low.ensures in
    let low = height_over-low g.E.Core.least c.args.root.shape.rows c.args.root.shape.cols in
    omega (arith, e, low, c.bottom-low.ensures, c.if-low-height.false)

pub built_leaf-requires-clause-low : goal.built_leaf-requires-clause-low
built_leaf-requires-clause-low g c =
    let f = flat g (goal.at.built_leaf-requires-clause-low g c).After-height_of_file-height in
    let h = file_height-leaf g.E.Core.least c.args.root.shape.rows c.args.root.shape.cols g.met.E.Quads.least_limit f in
    omega (arith, h, c.height_of_file-height.ensures.value)

pub built_leaf-requires-clause-number : goal.built_leaf-requires-clause-number
built_leaf-requires-clause-number g c =
    subst (λ k. IsNumber (quadrants_told c.args.quads.now) k c.args.root.number) (sym c.height_of_file-height.ensures.value) c.requires.sound.is_number

pub built_leaf-requires-clause-inside : goal.built_leaf-requires-clause-inside
built_leaf-requires-clause-inside g c =
    let f = flat g (goal.at.built_leaf-requires-clause-inside g c).After-height_of_file-height in
    root-inside (quadrants_told c.args.quads.now) g.E.Core.least c.args.root.shape.rows c.args.root.shape.cols c.height_of_file-height.result c.args.root.number c.requires.sound c.height_of_file-height.ensures.value f

pub returns-in_err-leaf-clause-makes : goal.returns-in_err-leaf-clause-makes
returns-in_err-leaf-clause-makes g c =
    let m = c.args.root.shape.rows in
    let n = c.args.root.shape.cols in
    let r = room-leaf (quadrants_told c.args.quads.now) (file_height m n) c.args.root.number (height_over g.E.Core.least m n - g.E.Core.least) c.requires.sound.is_number c.if-root-eq0.false in
    stops c.from_residual.result c.from_residual.ensures.1 (omega (arith, r)) (begun {h = 0} _) c.in_err-leaf.ensures

pub returns-clause-makes : goal.returns-clause-makes
returns-clause-makes g c =
    let m = c.args.root.shape.rows in
    let n = c.args.root.shape.cols in
    let quads = quadrants_told c.args.quads.now in
    let f = flat g (goal.at.returns-clause-makes g c).After-height_of_file-height in
    let r = room-leaf quads (file_height m n) c.args.root.number (height_over g.E.Core.least m n - g.E.Core.least) c.requires.sound.is_number c.if-root-eq0.false in
    leaf-made quads g.E.Core.lean _ g.E.Core.least (height_over g.E.Core.least m n) (file_height m n) c.args.root.number _ _ c.in_ok-leaf.leaf (sym f) r
    (subst (λ k. MakesQuad g.E.Core.lean 1 g.E.Core.least (cells_told quads k c.args.root.number) (g.E.Core.worker c.args.engine.now) (g.E.Core.worker c.built_leaf.new.engine) (Ok c.in_ok-leaf.leaf)) c.height_of_file-height.ensures.value c.in_ok-leaf.ensures)

pub returns-clause-noted : goal.returns-clause-noted
returns-clause-noted g c = noted-later _ _ _ _ c.in_ok-leaf.ensures.keeps c.requires.noted
