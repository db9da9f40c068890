use Rattle.std.proofs.Common.{◌≤◌, ◌+◌, ◌*◌, ◌∙◌, ℕ, true, false, ap, arith}
use Rattle.rel_model.specs.Roots.{relation_room, line_product_room}
use Rattle.rel_slices.specs.Thin.{most_lines}
use Rattle.rel_slices.specs.Rooms.{coimage_room, settled_room, cut_room}
use Rattle.rel_slices.proofs.Costs.{cut_cost, cut_images_cost, turned_cut_cost, cut_coimages_cost, thin_product}
use Rattle.rel_slices.proofs.by_whole.whole_by_whole.Goals as goal

pub returns-in_err-rows-clause-thin : goal.returns-in_err-rows-clause-thin
returns-in_err-rows-clause-thin g c = λ e thin.
    let laws = g.met.C.Core in
    let r = c.args.r in
    let s = c.args.s in
    let a = c.in_err-rows.ensures.room in
    let few : r.rows ≤ most_lines = omega arith in
    let m = cut_cost g.C.Core.least r.rows r.cols s.cols e few (laws.row_limit c.args.core.now r c.requires.left) (laws.col_limit c.args.core.now r c.requires.left) (laws.col_limit c.args.core.now s c.requires.right) in
    omega (arith, a, m)

pub returns-in_err-rows-clause-cost : goal.returns-in_err-rows-clause-cost
returns-in_err-rows-clause-cost g c = λ e.
    let m = returns-in_err-rows-clause-thin g c e (omega arith, omega arith) in
    let p = thin_product c.args.r.rows c.args.r.cols c.args.s.cols in
    omega (arith, m, p)

pub returns-then-s-ge-LEAST-clause-thin : goal.returns-then-s-ge-LEAST-clause-thin
returns-then-s-ge-LEAST-clause-thin g c = λ e thin.
    let laws = g.met.C.Core in
    let r = c.args.r in
    let s = c.args.s in
    let least : ℕ = g.C.Core.least in
    let a = c.in_ok-rows.ensures.room in
    let b = c.rows_by_whole.ensures.room in
    let p = c.in_ok-rows.ensures.value in
    let rows = c.in_ok-rows.rows in
    let few : r.rows ≤ most_lines = omega arith in
    let long : 257 ≤ s.cols = omega arith in
    let f = ap (λ (x : ℕ). x * line_product_room least 1 rows.other s.cols + settled_room least false x s.cols) p.count_is ∙ ap (λ (x : ℕ). r.rows * line_product_room least 1 x s.cols + settled_room least false r.rows s.cols) p.other_is in
    let m = cut_images_cost least r.rows r.cols s.cols e few long (laws.row_limit c.args.core.now r c.requires.left) (laws.col_limit c.args.core.now r c.requires.left) (laws.col_limit c.args.core.now s c.requires.right) in
    omega (arith, a, b, f, m)

pub returns-then-s-ge-LEAST-clause-cost : goal.returns-then-s-ge-LEAST-clause-cost
returns-then-s-ge-LEAST-clause-cost g c = λ e.
    let m = returns-then-s-ge-LEAST-clause-thin g c e (omega arith, omega arith) in
    let p = thin_product c.args.r.rows c.args.r.cols c.args.s.cols in
    omega (arith, m, p)

pub returns-in_err-columns-clause-thin : goal.returns-in_err-columns-clause-thin
returns-in_err-columns-clause-thin g c = λ e thin.
    let laws = g.met.C.Core in
    let r = c.args.r in
    let s = c.args.s in
    let least : ℕ = g.C.Core.least in
    let a = c.in_err-columns.ensures.room in
    let few : s.cols ≤ most_lines = omega arith in
    let q = ap (λ (x : ℕ). relation_room least x s.cols + cut_room least s.cols x) c.requires.middle in
    let m = turned_cut_cost least r.rows r.cols s.cols e few (laws.row_limit c.args.core.now r c.requires.left) (laws.col_limit c.args.core.now r c.requires.left) (laws.col_limit c.args.core.now s c.requires.right) in
    omega (arith, a, m, q)

pub returns-in_err-columns-clause-cost : goal.returns-in_err-columns-clause-cost
returns-in_err-columns-clause-cost g c = λ e.
    let m = returns-in_err-columns-clause-thin g c e (omega arith, omega arith) in
    let p = thin_product c.args.r.rows c.args.r.cols c.args.s.cols in
    omega (arith, m, p)

pub returns-then-r-ge-LEAST-clause-thin : goal.returns-then-r-ge-LEAST-clause-thin
returns-then-r-ge-LEAST-clause-thin g c = λ e thin.
    let laws = g.met.C.Core in
    let r = c.args.r in
    let s = c.args.s in
    let least : ℕ = g.C.Core.least in
    let a = c.in_ok-columns.ensures.room in
    let b = c.whole_by_columns.ensures.room in
    let p = c.in_ok-columns.ensures.value in
    let few : s.cols ≤ most_lines = omega arith in
    let long : 257 ≤ r.rows = omega arith in
    let f = ap (λ (x : ℕ). x * coimage_room least r.rows r.cols + settled_room least true x r.rows) p.count_is in
    let q = ap (λ (x : ℕ). relation_room least x s.cols + cut_room least s.cols x) c.requires.middle in
    let m = cut_coimages_cost least r.rows r.cols s.cols e few long (laws.row_limit c.args.core.now r c.requires.left) (laws.col_limit c.args.core.now r c.requires.left) (laws.col_limit c.args.core.now s c.requires.right) in
    omega (arith, a, b, f, m, q)

pub returns-then-r-ge-LEAST-clause-cost : goal.returns-then-r-ge-LEAST-clause-cost
returns-then-r-ge-LEAST-clause-cost g c = λ e.
    let m = returns-then-r-ge-LEAST-clause-thin g c e (omega arith, omega arith) in
    let p = thin_product c.args.r.rows c.args.r.cols c.args.s.cols in
    omega (arith, m, p)
