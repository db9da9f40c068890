use Rattle.std.proofs.Common.{◌≡◌, ◌∙◌, ℕ, ap, subst}
use Rattle.std.specs.Prelude.{IfOk}
use Rattle.rel_model.specs.Operators.{full, compose}
use Rattle.rel_model.specs.Choice.{dom as dom_of}
use Rattle.rel_model.specs.Worker.{set_of, Gives}
use Rattle.rel_model.proofs.Workers.{gives_set, keeps_set}
use Rattle.rel_choice.proofs.Vectors.{compose-full}
use Rattle.rel_choice.proofs.images.rows_met.Goals as goal

pub returns-clause-value : goal.returns-clause-value
returns-clause-value g c =
    let w0 = g.Q.Core.worker c.args.q.now in
    let w1 = g.Q.Core.worker c.full.new.self in
    let w2 = g.Q.Core.worker c.compose.new.self in
    let all = c.in_ok-all.ensures.value in
    let r = set_of w0 c.args.r in
    let a : set_of w1 c.in_ok-all.all ≡ full c.args.r.cols 1 = gives_set w1 c.args.r.cols 1 (full c.args.r.cols 1) c.in_ok-all.all all in
    let b : set_of w1 c.args.r ≡ r = keeps_set w0 w1 c.args.r c.in_ok-all.ensures.keeps c.requires in
    let e : compose (set_of w1 c.args.r) (set_of w1 c.in_ok-all.all) ≡ dom_of r = ap (λ x. compose x (set_of w1 c.in_ok-all.all)) b ∙ ap (compose r) a ∙ compose-full r c.args.r.cols (g.met.Q.Core.col_size c.args.q.now c.args.r c.requires) in
    let h = subst (λ (n : ℕ). IfOk c.compose.result (Gives w2 c.args.r.rows n (compose (set_of w1 c.args.r) (set_of w1 c.in_ok-all.all)))) all.col_size c.compose.ensures.value in
    subst (λ z. IfOk c.compose.result (Gives w2 c.args.r.rows 1 z)) e h
