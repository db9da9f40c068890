use Rattle.std.proofs.Common.{◌≡◌, ◌∙◌, ℕ, ap, subst, arith}
use Rattle.std.specs.Prelude.{IfOk}
use Rattle.rel_model.specs.Operators.{compose}
use Rattle.rel_model.specs.Choice.{next as next_of}
use Rattle.rel_model.specs.Worker.{set_of, Gives, product_room}
use Rattle.rel_model.proofs.Workers.{gives_set, keeps_set}
use Rattle.rel_choice.specs.Steps.{step_relation}
use Rattle.rel_choice.proofs.DerivedRooms.{operator-derived}
use Rattle.rel_choice.proofs.StepCells.{next-composed, next-small}
use Rattle.rel_choice.proofs.StepQuads.{next-room}
use Rattle.rel_choice.proofs.stepping.next.Goals as goal

pub returns-then-v-lt2-clause-value : goal.returns-then-v-lt2-clause-value
returns-then-v-lt2-clause-value g c =
    let e = next-small (set_of (g.Q.Core.worker c.args.q.now) c.args.v) c.args.v.rows (g.met.Q.Core.row_size c.args.q.now c.args.v c.requires.stands) c.if-v-lt2.true in
    subst (λ z. IfOk c.empty.result (Gives (g.Q.Core.worker c.empty.new.self) c.args.v.rows 1 z)) e c.empty.ensures.value

pub returns-then-v-lt2-clause-room : goal.returns-then-v-lt2-clause-room
returns-then-v-lt2-clause-room g c = let r = operator-derived c.args.v.rows 1 in let m = c.empty.ensures.room in omega (arith, r, m)

pub returns-in_err-step-clause-room : goal.returns-in_err-step-clause-room
returns-in_err-step-clause-room g c =
    let r = next-room g.Q.Core.least c.args.v.rows g.met.Q.Quads.least_limit c.if-v-lt2.false (g.met.Q.Core.row_limit c.args.q.now c.args.v c.requires.stands) in
    let m = c.in_err-step.ensures.room in
    omega (arith, r, m)

pub returns-clause-value : goal.returns-clause-value
returns-clause-value g c =
    let w0 = g.Q.Core.worker c.args.q.now in
    let w1 = g.Q.Core.worker c.step_below.new.q in
    let w2 = g.Q.Core.worker c.compose.new.self in
    let n : ℕ = c.args.v.rows in
    let step = c.in_ok-step.ensures.value in
    let v = set_of w0 c.args.v in
    let a : set_of w1 c.in_ok-step.step ≡ step_relation n = gives_set w1 n n (step_relation n) c.in_ok-step.step step in
    let b : set_of w1 c.args.v ≡ v = keeps_set w0 w1 c.args.v c.in_ok-step.ensures.keeps c.requires.stands in
    let e : compose (set_of w1 c.in_ok-step.step) (set_of w1 c.args.v) ≡ next_of v = ap (λ x. compose x (set_of w1 c.args.v)) a ∙ ap (compose (step_relation n)) b
    ∙ next-composed v n (g.met.Q.Core.row_size c.args.q.now c.args.v c.requires.stands) (g.met.Q.Core.col_size c.args.q.now c.args.v c.requires.stands ∙ c.requires.column) in
    let h = subst (λ (k : ℕ). IfOk c.compose.result (Gives w2 k c.args.v.cols (compose (set_of w1 c.in_ok-step.step) (set_of w1 c.args.v)))) step.row_size c.compose.ensures.value in
    let i = subst (λ (k : ℕ). IfOk c.compose.result (Gives w2 n k (compose (set_of w1 c.in_ok-step.step) (set_of w1 c.args.v)))) c.requires.column h in
    subst (λ z. IfOk c.compose.result (Gives w2 n 1 z)) e i

pub returns-clause-room : goal.returns-clause-room
returns-clause-room g c =
    let n : ℕ = c.args.v.rows in
    let r = next-room g.Q.Core.least n g.met.Q.Quads.least_limit c.if-v-lt2.false (g.met.Q.Core.row_limit c.args.q.now c.args.v c.requires.stands) in
    let step = c.in_ok-step.ensures.value in
    let k = c.in_ok-step.ensures.room in
    let m = c.compose.ensures.room in
    let a = ap (λ (x : ℕ). product_room x c.in_ok-step.step.cols c.args.v.cols) step.row_size in
    let b = ap (λ (x : ℕ). product_room n x c.args.v.cols) step.col_size in
    let d = ap (λ (x : ℕ). product_room n n x) c.requires.column in
    omega (arith, r, k, m, a, b, d)
