use Rattle.std.proofs.Common.{◌≡◌, ◌∙◌, ℕ, Bool, cond, true, false, sym, ap, arith}
use Rattle.rel_model.specs.Operators.{transpose}
use Rattle.rel_model.specs.Roots.{relation_room}
use Rattle.rel_model.proofs.Workers.{gives_set}
use Rattle.rel_slices.specs.Thin.{line_set, laid}
use Rattle.rel_slices.specs.Rooms.{whole_room}
use Rattle.rel_slices.proofs.Putting.{recast}
use Rattle.rel_slices.proofs.Laying.{laid_transposed}
use Rattle.rel_slices.proofs.whole.assembled.Goals as goal

pub returns-in_err-rows-clause-room : goal.returns-in_err-rows-clause-room
unfolding whole_room
returns-in_err-rows-clause-room g c = let a = c.in_err-rows.ensures.room in omega (arith, a)

pub returns-in_err-columns-clause-room : goal.returns-in_err-columns-clause-room
unfolding whole_room
returns-in_err-columns-clause-room g c =
    let s = c.args.s.now in
    let a = c.in_ok-rows.ensures.room in
    let b = c.in_err-columns.ensures.tree in
    let v = c.in_ok-rows.ensures.value in
    let e = ap (λ (x : ℕ). relation_room g.C.Core.least x c.in_ok-rows.rows.cols) v.row_size ∙ ap (λ (x : ℕ). relation_room g.C.Core.least s.count x) v.col_size in
    let t = ap (λ (x : Bool). cond x (relation_room g.C.Core.least s.count s.other) 0) c.if-s.true in
    omega (arith, a, b, e, t)

pub returns-then-s-clause-room : goal.returns-then-s-clause-room
unfolding whole_room
returns-then-s-clause-room g c =
    let s = c.args.s.now in
    let a = c.in_ok-rows.ensures.room in
    let b = c.in_ok-columns.ensures.tree in
    let v = c.in_ok-rows.ensures.value in
    let e = ap (λ (x : ℕ). relation_room g.C.Core.least x c.in_ok-rows.rows.cols) v.row_size ∙ ap (λ (x : ℕ). relation_room g.C.Core.least s.count x) v.col_size in
    let t = ap (λ (x : Bool). cond x (relation_room g.C.Core.least s.count s.other) 0) c.if-s.true in
    omega (arith, a, b, e, t)

pub returns-then-s-clause-value : goal.returns-then-s-clause-value
returns-then-s-clause-value g c =
    let o = g.C.Core.worker c.args.core.now in
    let w = g.C.Core.worker c.as_rows.new.core in
    let s = c.args.s.now in
    let v = c.in_ok-rows.ensures.value in
    let turned : s.turned ≡ true = c.if-s.true in
    recast (g.C.Core.worker c.transpose.new.self) _ _ _ _ _ _ c.in_ok-columns.columns
    (v.col_size ∙ ap (λ (x : Bool). cond x s.other s.count) (sym turned)) (v.row_size ∙ ap (λ (x : Bool). cond x s.count s.other) (sym turned))
    (ap transpose (gives_set w _ _ _ c.in_ok-rows.rows v) ∙ laid_transposed false s.count s.other (line_set o s) ∙ ap (λ (x : Bool). laid x s.count s.other (line_set o s)) (sym turned))
    c.in_ok-columns.ensures.value

pub returns-clause-room : goal.returns-clause-room
unfolding whole_room
returns-clause-room g c = let a = c.in_ok-rows.ensures.room in omega (arith, a)
