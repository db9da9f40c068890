use Rattle.std.proofs.Common.{◌∙◌, ℕ, true, subst, ap, arith}
use Rattle.rel_model.specs.Relation.{Relation}
use Rattle.rel_model.specs.Worker.{set_of}
use Rattle.rel_model.proofs.Workers.{gives_set}
use Rattle.rel_slices.specs.Thin.{GivesRowsOf}
use Rattle.rel_slices.specs.Rooms.{cut_room}
use Rattle.rel_slices.proofs.Valuing.{columns_thin}
use Rattle.rel_slices.proofs.whole.cut_columns.Goals as goal

pub returns-clause-value : goal.returns-clause-value
returns-clause-value g c =
    let o = g.C.Core.worker c.args.core.now in
    let w1 = g.C.Core.worker c.transpose.new.self in
    let w2 = g.C.Core.worker c.cut_rows.new.core in
    let r = c.args.r in
    let t = c.in_ok-turned.ensures.value in
    let s = c.in_ok-columns.columns in
    columns_thin w2 r.rows r.cols (set_of o r) s (g.met.C.Core.valid c.args.core.now r c.requires.standing)
    (subst (λ (x : Relation). GivesRowsOf w2 true r.cols r.rows x s) (gives_set w1 _ _ _ c.in_ok-turned.turned t)
    (subst (λ (x : ℕ). GivesRowsOf w2 true r.cols x (set_of w1 c.in_ok-turned.turned) s) t.col_size
    (subst (λ (x : ℕ). GivesRowsOf w2 true x c.in_ok-turned.turned.cols (set_of w1 c.in_ok-turned.turned) s) t.row_size c.in_ok-columns.ensures.value)))

pub returns-in_err-columns-clause-room : goal.returns-in_err-columns-clause-room
returns-in_err-columns-clause-room g c =
    let a = c.in_ok-turned.ensures.tree in
    let b = c.in_err-columns.ensures.room in
    let t = c.in_ok-turned.ensures.value in
    let e = ap (λ (x : ℕ). cut_room g.C.Core.least x c.in_ok-turned.turned.cols) t.row_size ∙ ap (cut_room g.C.Core.least c.args.r.cols) t.col_size in
    omega (arith, a, b, e)

pub returns-clause-room : goal.returns-clause-room
returns-clause-room g c =
    let a = c.in_ok-turned.ensures.tree in
    let b = c.in_ok-columns.ensures.room in
    let t = c.in_ok-turned.ensures.value in
    let e = ap (λ (x : ℕ). cut_room g.C.Core.least x c.in_ok-turned.turned.cols) t.row_size ∙ ap (cut_room g.C.Core.least c.args.r.cols) t.col_size in
    omega (arith, a, b, e)
