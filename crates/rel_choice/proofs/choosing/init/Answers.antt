use Rattle.std.proofs.Common.{subst, arith}
use Rattle.std.specs.Prelude.{IfOk}
use Rattle.rel_model.specs.Worker.{set_of, Gives}
use Rattle.rel_choice.proofs.DerivedRooms.{operator-derived}
use Rattle.rel_choice.proofs.Vectors.{init-none, init-some}
use Rattle.rel_choice.proofs.choosing.init.Goals as goal

pub returns-then-v-eq0-clause-value : goal.returns-then-v-eq0-clause-value
returns-then-v-eq0-clause-value g c =
    let e = init-none (set_of (g.Q.Core.worker c.args.q.now) c.args.v) c.args.v.rows (g.met.Q.Core.row_size c.args.q.now c.args.v c.requires.stands) c.if-v-eq0.true in
    subst (λ z. IfOk c.empty.result (Gives (g.Q.Core.worker c.empty.new.self) c.args.v.rows 1 z)) e c.empty.ensures.value

pub returns-then-v-eq0-clause-room : goal.returns-then-v-eq0-clause-room
returns-then-v-eq0-clause-room g c = let r = operator-derived c.args.v.rows 1 in let m = c.empty.ensures.room in omega (arith, r, m)

pub returns-clause-value : goal.returns-clause-value
returns-clause-value g c =
    let e = init-some (set_of (g.Q.Core.worker c.args.q.now) c.args.v) c.args.v.rows (g.met.Q.Core.row_size c.args.q.now c.args.v c.requires.stands) in
    subst (λ z. IfOk c.single.result (Gives (g.Q.Core.worker c.single.new.self) c.args.v.rows 1 z)) e c.single.ensures.value

pub returns-clause-room : goal.returns-clause-room
returns-clause-room g c = let r = operator-derived c.args.v.rows 1 in let m = c.single.ensures.room in omega (arith, r, m)
