use Rattle.std.proofs.Common.{IfSome, Option, rules, subst, sym}
use Rattle.rel_model.specs.declared.Quad.{Quad}
use Rattle.rel_model.specs.Equations.{IsTrueIn, Operator, result_of, side_of}
use Rattle.rel_model.specs.Quads.{Keeper, IsQuad, quad_cells, ReadsQuads}
use Rattle.memo_laws.specs.Looking.{operator_of}
use Rattle.quad_nodes.proofs.Looking.{at_names, looked_up_in_order}
use Rattle.quad_nodes.proofs.nodes.Nodes.look.Goals as goal
use Rattle.quad_nodes.proofs.nodes.Nodes.look.Goals.{in-Some, in-None}

pub returns-clause-found : goal.returns-clause-found
returns-clause-found c =
    let v : Keeper = c.args.self.now in
    let n : Keeper = record { table = c.self.inside.table.now; view = c.look.new.seat; misses = c.look.new.seat.refused } in
    let op : Operator = operator_of c.args.op in
    let x : ReadsQuads v n = search rules in
    let P : Option Quad → Type 0 = λ o. IfSome o (IsQuad n c.args.a.height (result_of op (side_of c.args.a.height) (quad_cells v c.args.a) (quad_cells v c.args.b))) in
    elim c.match-look.branch [
      | in-Some w ↦ subst P (sym w.result-is) (looked_up_in_order v n op c.args.a c.args.b w.in-Some.name x c.requires.a_stands c.requires.b_stands c.requires.one_height
          (at_names (λ i j. IsTrueIn n.view.words (record { op = op; height = c.args.a.height; a = i; b = j; r = w.in-Some.name })) _ _ _ _ c.names_in_order-first.ensures.first c.names_in_order-first.ensures.second w.in-Some.ensures.looks.holds))
      | in-None w ↦ subst P (sym w.result-is) tt
    ]
