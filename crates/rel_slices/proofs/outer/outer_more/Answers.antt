use Rattle.std.proofs.Common.{◌≡◌, ◌∙◌, ℕ, Some, ap, arith}
use Rattle.rel_model.specs.Relation.{Relation}
use Rattle.rel_model.specs.Roots.{relation_room, line_product_room}
use Rattle.rel_model.specs.Operators.{union, compose, transpose}
use Rattle.rel_model.specs.Worker.{set_of}
use Rattle.rel_model.proofs.Workers.{gives_set, keeps_set, keeps_trans}
use Rattle.rel_slices.specs.Rooms.{outer_room}
use Rattle.rel_slices.proofs.outer.outer_more.Goals as goal

pub returns-clause-value : goal.returns-clause-value
returns-clause-value g c =
    let w0 = g.C.Core.worker c.args.core.now in
    let w1 = g.C.Core.worker c.transpose.new.self in
    let w2 = g.C.Core.worker c.compose.new.self in
    let U : Relation = set_of w0 c.args.u in
    let V : Relation = set_of w0 c.args.v in
    let A : Relation = set_of w0 c.args.all in
    let k0 = c.in_ok-column.ensures.keeps in
    let k1 = c.in_ok-product.ensures.keeps in
    let e1 : set_of w1 c.in_ok-column.column ≡ transpose U = gives_set w1 _ _ _ c.in_ok-column.column c.in_ok-column.ensures.value in
    let e2 : set_of w1 c.args.v ≡ V = keeps_set w0 w1 c.args.v k0 c.requires.v_stands in
    let e3 : set_of w2 c.in_ok-product.product ≡ compose (transpose U) V =
    gives_set w2 _ _ _ c.in_ok-product.product c.in_ok-product.ensures.value ∙ ap (λ (x : Relation). compose x (set_of w1 c.args.v)) e1 ∙ ap (compose (transpose U)) e2 in
    let e4 : set_of w2 c.args.all ≡ A = keeps_set w0 w2 c.args.all (keeps_trans w0 w1 w2 k0 k1) c.requires.all_stands in
    let v = c.in_ok-more.ensures.value in
    record {
      means = v.means ∙ ap Some (ap (λ (x : Relation). union x (set_of w2 c.args.all)) e3 ∙ ap (union (compose (transpose U) V)) e4);
      row_size = v.row_size ∙ c.in_ok-product.ensures.value.row_size ∙ c.in_ok-column.ensures.value.row_size;
      col_size = v.col_size ∙ c.in_ok-product.ensures.value.col_size;
    }

pub returns-in_err-column-clause-room : goal.returns-in_err-column-clause-room
unfolding outer_room
returns-in_err-column-clause-room g c =
    let a = c.in_err-column.ensures.tree in
    let e = ap (λ (x : ℕ). relation_room g.C.Core.least x c.args.u.cols) c.requires.u_rows in
    omega (arith, a, e)

pub returns-in_err-product-clause-room : goal.returns-in_err-product-clause-room
unfolding outer_room
returns-in_err-product-clause-room g c =
    let a = c.in_ok-column.ensures.tree in
    let e = ap (λ (x : ℕ). relation_room g.C.Core.least x c.args.u.cols) c.requires.u_rows in
    let t = c.in_ok-column.ensures.value.col_size in
    let q = c.requires.u_rows in
    let b = c.in_err-product.ensures.line (omega (arith, t, q)) in
    let f = ap (λ (x : ℕ). line_product_room g.C.Core.least x c.in_ok-column.column.cols c.args.v.cols) c.in_ok-column.ensures.value.row_size in
    let h = ap (λ (x : ℕ). line_product_room g.C.Core.least c.args.u.cols x c.args.v.cols) (c.in_ok-column.ensures.value.col_size ∙ c.requires.u_rows) in
    omega (arith, a, e, b, f, h)

pub returns-in_err-more-clause-room : goal.returns-in_err-more-clause-room
unfolding outer_room
returns-in_err-more-clause-room g c =
    let a = c.in_ok-column.ensures.tree in
    let e = ap (λ (x : ℕ). relation_room g.C.Core.least x c.args.u.cols) c.requires.u_rows in
    let t = c.in_ok-column.ensures.value.col_size in
    let q = c.requires.u_rows in
    let b = c.in_ok-product.ensures.line (omega (arith, t, q)) in
    let f = ap (λ (x : ℕ). line_product_room g.C.Core.least x c.in_ok-column.column.cols c.args.v.cols) c.in_ok-column.ensures.value.row_size in
    let h = ap (λ (x : ℕ). line_product_room g.C.Core.least c.args.u.cols x c.args.v.cols) (c.in_ok-column.ensures.value.col_size ∙ c.requires.u_rows) in
    let d = c.in_err-more.ensures.tree in
    let i = ap (λ (x : ℕ). relation_room g.C.Core.least x c.in_ok-product.product.cols) (c.in_ok-product.ensures.value.row_size ∙ c.in_ok-column.ensures.value.row_size) in
    let j = ap (λ (x : ℕ). relation_room g.C.Core.least c.args.u.cols x) c.in_ok-product.ensures.value.col_size in
    omega (arith, a, e, b, f, h, d, i, j)

pub returns-clause-room : goal.returns-clause-room
unfolding outer_room
returns-clause-room g c =
    let a = c.in_ok-column.ensures.tree in
    let e = ap (λ (x : ℕ). relation_room g.C.Core.least x c.args.u.cols) c.requires.u_rows in
    let t = c.in_ok-column.ensures.value.col_size in
    let q = c.requires.u_rows in
    let b = c.in_ok-product.ensures.line (omega (arith, t, q)) in
    let f = ap (λ (x : ℕ). line_product_room g.C.Core.least x c.in_ok-column.column.cols c.args.v.cols) c.in_ok-column.ensures.value.row_size in
    let h = ap (λ (x : ℕ). line_product_room g.C.Core.least c.args.u.cols x c.args.v.cols) (c.in_ok-column.ensures.value.col_size ∙ c.requires.u_rows) in
    let d = c.in_ok-more.ensures.tree in
    let i = ap (λ (x : ℕ). relation_room g.C.Core.least x c.in_ok-product.product.cols) (c.in_ok-product.ensures.value.row_size ∙ c.in_ok-column.ensures.value.row_size) in
    let j = ap (λ (x : ℕ). relation_room g.C.Core.least c.args.u.cols x) c.in_ok-product.ensures.value.col_size in
    omega (arith, a, e, b, f, h, d, i, j)
