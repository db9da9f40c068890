use Rattle.std.proofs.Common.{◌∙◌, ℕ, sym, ap, arith}
use Rattle.rel_model.specs.Roots.{relation_room, line_product_room}
use Rattle.rel_slices.specs.Rooms.{coimage_room}
use Rattle.rel_slices.proofs.through.coimage_by_product.Goals as goal

pub returns-in_err-column-clause-room : goal.returns-in_err-column-clause-room
unfolding coimage_room
returns-in_err-column-clause-room g c =
    let a = c.in_err-column.ensures.tree in
    let e = ap (λ (x : ℕ). relation_room g.C.Core.least x c.args.u.cols) c.requires.row ∙ ap (relation_room g.C.Core.least 1) (sym c.requires.middle) in
    omega (arith, a, e)

pub returns-in_err-product-clause-room : goal.returns-in_err-product-clause-room
unfolding coimage_room
returns-in_err-product-clause-room g c =
    let a = c.in_ok-column.ensures.tree in
    let e = ap (λ (x : ℕ). relation_room g.C.Core.least x c.args.u.cols) c.requires.row ∙ ap (relation_room g.C.Core.least 1) (sym c.requires.middle) in
    let t = c.in_ok-column.ensures.value.col_size in
    let q = c.requires.row in
    let b = c.in_err-product.ensures.line (omega (arith, t, q)) in
    let f = ap (line_product_room g.C.Core.least c.args.r.rows c.args.r.cols) (c.in_ok-column.ensures.value.col_size ∙ c.requires.row) in
    omega (arith, a, e, b, f)

pub returns-in_err-line-clause-room : goal.returns-in_err-line-clause-room
unfolding coimage_room
returns-in_err-line-clause-room g c =
    let a = c.in_ok-column.ensures.tree in
    let e = ap (λ (x : ℕ). relation_room g.C.Core.least x c.args.u.cols) c.requires.row ∙ ap (relation_room g.C.Core.least 1) (sym c.requires.middle) in
    let t = c.in_ok-column.ensures.value.col_size in
    let q = c.requires.row in
    let b = c.in_ok-product.ensures.line (omega (arith, t, q)) in
    let f = ap (line_product_room g.C.Core.least c.args.r.rows c.args.r.cols) (c.in_ok-column.ensures.value.col_size ∙ c.requires.row) in
    let d = c.in_err-line.ensures.tree in
    let h = ap (λ (x : ℕ). relation_room g.C.Core.least x c.in_ok-product.product.cols) c.in_ok-product.ensures.value.row_size ∙ ap (relation_room g.C.Core.least c.args.r.rows) (c.in_ok-product.ensures.value.col_size ∙ c.in_ok-column.ensures.value.col_size ∙ c.requires.row) in
    omega (arith, a, e, b, f, d, h)

pub returns-clause-room : goal.returns-clause-room
unfolding coimage_room
returns-clause-room g c =
    let a = c.in_ok-column.ensures.tree in
    let e = ap (λ (x : ℕ). relation_room g.C.Core.least x c.args.u.cols) c.requires.row ∙ ap (relation_room g.C.Core.least 1) (sym c.requires.middle) in
    let t = c.in_ok-column.ensures.value.col_size in
    let q = c.requires.row in
    let b = c.in_ok-product.ensures.line (omega (arith, t, q)) in
    let f = ap (line_product_room g.C.Core.least c.args.r.rows c.args.r.cols) (c.in_ok-column.ensures.value.col_size ∙ c.requires.row) in
    let d = c.in_ok-line.ensures.tree in
    let h = ap (λ (x : ℕ). relation_room g.C.Core.least x c.in_ok-product.product.cols) c.in_ok-product.ensures.value.row_size ∙ ap (relation_room g.C.Core.least c.args.r.rows) (c.in_ok-product.ensures.value.col_size ∙ c.in_ok-column.ensures.value.col_size ∙ c.requires.row) in
    omega (arith, a, e, b, f, d, h)
