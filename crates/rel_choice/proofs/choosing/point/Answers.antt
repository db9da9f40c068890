use Rattle.std.proofs.Common.{◌≡◌, ◌∙◌, ℕ, subst}
use Rattle.std.specs.Prelude.{IfOk}
use Rattle.rel_model.specs.Choice.{atom as atom_of, point as point_of}
use Rattle.rel_model.specs.Worker.{set_of, Gives}
use Rattle.rel_choice.proofs.Vectors.{atom-point}
use Rattle.rel_choice.proofs.choosing.point.Goals as goal

pub returns-clause-value : goal.returns-clause-value
returns-clause-value g c =
    let r = set_of (g.Q.Core.worker c.args.q.now) c.args.v in
    let e : atom_of r ≡ point_of r = atom-point r (g.met.Q.Core.col_size c.args.q.now c.args.v c.requires.stands ∙ c.requires.column) in
    let w = g.Q.Core.worker c.atom.new.q in
    let h = subst (λ (n : ℕ). IfOk c.atom.result (Gives w c.args.v.rows n (atom_of r))) c.requires.column c.atom.ensures.value in
    subst (λ z. IfOk c.atom.result (Gives w c.args.v.rows 1 z)) e h
