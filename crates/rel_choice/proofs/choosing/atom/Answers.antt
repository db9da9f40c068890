use Rattle.std.proofs.Common.{◌∙◌, sym, subst, arith}
use Rattle.std.specs.Prelude.{IfOk}
use Rattle.rel_model.specs.Worker.{set_of, Gives}
use Rattle.rel_choice.proofs.DerivedRooms.{operator-derived}
use Rattle.rel_choice.proofs.Standing.{has-within}
use Rattle.rel_choice.proofs.Vectors.{atom-none, atom-some}
use Rattle.rel_choice.proofs.choosing.atom.Goals as goal

pub returns-in_default-clause-value : goal.returns-in_default-clause-value
returns-in_default-clause-value g c =
    let r = set_of (g.Q.Core.worker c.args.q.now) c.args.r in
    let m = g.met.Q.Core.row_size c.args.q.now c.args.r c.requires in
    let n = g.met.Q.Core.col_size c.args.q.now c.args.r c.requires in
    let e = atom-none r c.args.r.rows c.args.r.cols m n (sym c.in_default.is ∙ c.next_pair.ensures.value) in
    subst (λ z. IfOk c.empty.result (Gives (g.Q.Core.worker c.empty.new.self) c.args.r.rows c.args.r.cols z)) e c.empty.ensures.value

pub returns-in_default-clause-room : goal.returns-in_default-clause-room
returns-in_default-clause-room g c = let r = operator-derived c.args.r.rows c.args.r.cols in let k = c.next_pair.ensures.room in let m = c.empty.ensures.room in omega (arith, r, k, m)

pub single-requires-clause-row : goal.single-requires-clause-row
single-requires-clause-row g c =
    let r = set_of (g.Q.Core.worker c.args.q.now) c.args.r in
    let m = g.met.Q.Core.row_size c.args.q.now c.args.r c.requires in
    let h = has-within r (g.met.Q.Core.valid c.args.q.now c.args.r c.requires) c.in-Some.row c.in-Some.column c.in-Some.ensures.among in
    omega (arith, m, h.0)

pub single-requires-clause-col : goal.single-requires-clause-col
single-requires-clause-col g c =
    let r = set_of (g.Q.Core.worker c.args.q.now) c.args.r in
    let n = g.met.Q.Core.col_size c.args.q.now c.args.r c.requires in
    let h = has-within r (g.met.Q.Core.valid c.args.q.now c.args.r c.requires) c.in-Some.row c.in-Some.column c.in-Some.ensures.among in
    omega (arith, n, h.1)

pub returns-clause-value : goal.returns-clause-value
returns-clause-value g c =
    let r = set_of (g.Q.Core.worker c.args.q.now) c.args.r in
    let m = g.met.Q.Core.row_size c.args.q.now c.args.r c.requires in
    let n = g.met.Q.Core.col_size c.args.q.now c.args.r c.requires in
    let e = atom-some r c.args.r.rows c.args.r.cols c.in-Some.row c.in-Some.column (g.met.Q.Core.valid c.args.q.now c.args.r c.requires) m n (sym c.in-Some.is ∙ c.next_pair.ensures.value) in
    subst (λ z. IfOk c.single.result (Gives (g.Q.Core.worker c.single.new.self) c.args.r.rows c.args.r.cols z)) e c.single.ensures.value

pub returns-clause-room : goal.returns-clause-room
returns-clause-room g c = let r = operator-derived c.args.r.rows c.args.r.cols in let k = c.next_pair.ensures.room in let m = c.single.ensures.room in omega (arith, r, k, m)
