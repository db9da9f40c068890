use Rattle.std.proofs.Common.{◌∙◌, ap, get_or, rules}
use Rattle.rel_model.specs.Trees.{first_of, second_of}
use Rattle.rel_model.specs.Quads.{Keeper, KeepsQuads}
use Rattle.quad_nodes.proofs.Halving.{halves_are}
use Rattle.quad_nodes.proofs.nodes.Nodes.halves.Goals as goal

pub returns-clause-halves : goal.returns-clause-halves
returns-clause-halves c =
    let w : Keeper = record { table = c.self.inside.table.now; view = c.kids.new.seat; misses = c.kids.new.seat.refused } in
    let x : KeepsQuads 0 c.args.self.now w = search rules in
    let e = c.kids.ensures.first ∙ ap (λ (v : Keeper). first_of (get_or v.view.words c.args.name 0)) c.self.view_is in
    let f = c.kids.ensures.second ∙ ap (λ (v : Keeper). second_of (get_or v.view.words c.args.name 0)) c.self.view_is in
    halves_are c.args.self.now w c.args.name c.kids.result.0 c.kids.result.1 x e f
