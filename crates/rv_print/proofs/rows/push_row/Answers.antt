use Rattle.std.proofs.Common.{◌≡◌, ◌<◌, ◌≤◌, ◌∙◌, ◌++◌, ◌∷◌, ◌^◌, [], ℕ, map, sym, ap, subst, arith, append_assoc}
use Rattle.std.specs.List.{range_with_len}
use Rattle.rel_model.specs.Cells.{Cells}
use Rattle.rel_model.specs.Relation.{has}
use Rattle.rel_model.specs.Roots.{height_over}
use Rattle.rel_model.specs.Worker.{set_of, quad_set}
use Rattle.rel_model.proofs.Heights.{height_over-rows, height_over-cols}
use Rattle.run_model.specs.Texts.{cell, row_text}
use Rattle.rv_print.specs.Marks.{marks}
use Rattle.rv_print.proofs.Chains.{where_ok, where_same}
use Rattle.rv_print.proofs.Marking.{marks-row}
use Rattle.rv_print.proofs.Standing.{gives_quad_set}
use Rattle.rv_print.proofs.rows.push_row.Goals as goal

pub push_cells-requires-clause-row : goal.push_cells-requires-clause-row
push_cells-requires-clause-row g c =
    let fits = height_over-rows g.E.Core.least c.args.rel.rows c.args.rel.cols (g.met.E.Core.row_limit c.args.engine.now c.args.rel c.requires.standing) in
    subst (λ (h : ℕ). c.args.i < 2 ^ h) (sym c.root-quad.ensures.same_height) (omega (arith, fits, c.requires.row))

pub push_cells-requires-clause-cols : goal.push_cells-requires-clause-cols
push_cells-requires-clause-cols g c =
    subst (λ (h : ℕ). c.args.rel.cols ≤ 2 ^ h) (sym c.root-quad.ensures.same_height)
    (height_over-cols g.E.Core.least c.args.rel.rows c.args.rel.cols (g.met.E.Core.col_limit c.args.engine.now c.args.rel c.requires.standing))

pub returns-clause-text : goal.returns-clause-text
unfolding row_text
returns-clause-text g c =
    let w = g.E.Core.worker c.args.engine.now in
    let R = set_of w c.args.rel in
    let quad = c.root-quad.result in
    let i = c.args.i in
    let old = c.args.out.now.items in
    let same = gives_quad_set w (height_over g.E.Core.least c.args.rel.rows c.args.rel.cols) (has R) quad c.root-quad.ensures in
    let line : marks (quad_set w quad i) c.args.rel.cols ≡ map (cell R i) (range_with_len 0 R.cols) =
    ap (λ (f : Cells). marks (f i) c.args.rel.cols) same ∙ marks-row (has R i) c.args.rel.cols
    ∙ ap (λ (n : ℕ). map (cell R i) (range_with_len 0 n)) (sym (g.met.E.Core.col_size c.args.engine.now c.args.rel c.requires.standing)) in
    let ended = ap (λ zs. zs ++ 10 ∷ []) (c.in_ok-push_cells.ensures.text ∙ ap (λ zs. old ++ zs) line)
    ∙ append_assoc old (map (cell R i) (range_with_len 0 R.cols)) (10 ∷ []) in
    where_same _ _ _ _ ended (where_ok _ _ _ _ c.extend_from_slice.ensures.items)
