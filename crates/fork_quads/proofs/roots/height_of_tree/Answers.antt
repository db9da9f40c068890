use Rattle.std.proofs.Common.{◌≡◌, ◌<◌, ◌≤◌, ◌+◌, ◌-◌, ◌^◌, ◌∙◌, ap, arith, ℕ}
use Rattle.rel_model.specs.Relation.{size_height}
use Rattle.rel_model.specs.Trees.{bottom_height, top_height}
use Rattle.rel_model.specs.Equations.{side_of}
use Rattle.rel_model.proofs.QuadLaws.{side_of-power}
use Rattle.fork_quads.proofs.Crewing.{tree_height-found}
use Rattle.fork_quads.proofs.roots.height_of_tree.Goals as goal

pub side_of_height-requires-clause-low : goal.side_of_height-requires-clause-low
unfolding bottom_height
side_of_height-requires-clause-low c = omega arith

pub side_of_height-requires-clause-high : goal.side_of_height-requires-clause-high
unfolding top_height
side_of_height-requires-clause-high c = omega arith

side_is : (h : ℕ) → 3 ≤ h → side_of h ≡ 2 ^ h
unfolding bottom_height
side_is h l = side_of-power h l

pub returns-then-most-side_of_height : goal.returns-then-most-side_of_height
returns-then-most-side_of_height c =
    let h : ℕ = c.heights.height in
    let s : c.side_of_height.result ≡ 2 ^ h = c.side_of_height.ensures ∙ side_is h c.heights.auto.height in
    let t = c.if-most-side_of_height.true in
    tree_height-found c.args.rows c.args.cols c.max-most.result h c.requires.row_limit c.requires.col_limit c.max-most.ensures c.heights.auto.height (omega arith) c.heights.invariant

pub heights-preserved : goal.heights-preserved
heights-preserved c l =
    let h : ℕ = c.heights.height in
    let s : c.side_of_height.result ≡ 2 ^ h = c.side_of_height.ensures ∙ side_is h c.heights.auto.height in
    let t = c.if-most-side_of_height.false in
    let e : 2 ^ (h + 1 - 1) ≡ 2 ^ h = ap (λ (x : ℕ). 2 ^ x) (let g : h + 1 - 1 ≡ h = omega arith in g) in
    omega arith

pub returns : goal.returns
returns c =
    let e : c.heights.height ≡ size_height = omega (arith, c.heights-test.false) in
    tree_height-found c.args.rows c.args.cols c.max-most.result size_height c.requires.row_limit c.requires.col_limit c.max-most.ensures (omega arith) (omega arith)
    (λ _. let g : c.heights.height - 1 ≡ size_height - 1 = omega arith in let p : 2 ^ (c.heights.height - 1) < c.max-most.result = c.heights.invariant (omega arith) in let q : 2 ^ (c.heights.height - 1) ≡ 2 ^ (size_height - 1) = ap (λ (x : ℕ). 2 ^ x) g in omega arith)
