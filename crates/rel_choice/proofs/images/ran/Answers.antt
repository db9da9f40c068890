use Rattle.std.proofs.Common.{◌≡◌, ◌∙◌, ℕ, ap, subst, arith}
use Rattle.std.specs.Prelude.{IfOk}
use Rattle.rel_model.specs.Operators.{transpose}
use Rattle.rel_model.specs.Choice.{dom as dom_of, ran as ran_of}
use Rattle.rel_model.specs.Worker.{set_of, Gives, operator_room, product_room}
use Rattle.rel_model.proofs.Workers.{gives_set}
use Rattle.rel_choice.proofs.DerivedRooms.{ran-room}
use Rattle.rel_choice.proofs.Vectors.{transposed-dom}
use Rattle.rel_choice.proofs.images.ran.Goals as goal

pub returns-in_err-turned-clause-room : goal.returns-in_err-turned-clause-room
returns-in_err-turned-clause-room g c = let r = ran-room c.args.r.rows c.args.r.cols in let m = c.in_err-turned.ensures.room in omega (arith, r, m)

pub returns-clause-value : goal.returns-clause-value
returns-clause-value g c =
    let w0 = g.Q.Core.worker c.args.q.now in
    let w1 = g.Q.Core.worker c.transpose.new.self in
    let w2 = g.Q.Core.worker c.rows_met.new.q in
    let r = set_of w0 c.args.r in
    let t = c.in_ok-turned.ensures.value in
    let e : dom_of (set_of w1 c.in_ok-turned.turned) ≡ ran_of r = ap dom_of (gives_set w1 c.args.r.cols c.args.r.rows (transpose r) c.in_ok-turned.turned t) ∙ transposed-dom r in
    let h = subst (λ (n : ℕ). IfOk c.rows_met.result (Gives w2 n 1 (dom_of (set_of w1 c.in_ok-turned.turned)))) t.row_size c.rows_met.ensures.value in
    subst (λ z. IfOk c.rows_met.result (Gives w2 c.args.r.cols 1 z)) e h

pub returns-clause-room : goal.returns-clause-room
returns-clause-room g c =
    let r = ran-room c.args.r.rows c.args.r.cols in
    let t = c.in_ok-turned.ensures.value in
    let k = c.in_ok-turned.ensures.room in
    let m = c.rows_met.ensures.room in
    let e = ap (λ (n : ℕ). operator_room n 1) t.col_size in
    let f = ap (λ (n : ℕ). product_room n c.in_ok-turned.turned.cols 1) t.row_size in
    let h = ap (λ (n : ℕ). product_room c.args.r.cols n 1) t.col_size in
    omega (arith, r, k, m, e, f, h)
