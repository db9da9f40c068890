use Rattle.std.proofs.Common.{◌≡◌, ◌≤◌, ℕ, refl, sym, ap, subst, ◌∙◌, arith}
use Rattle.rel_model.specs.declared.Quad.{Quad}
use Rattle.rel_model.specs.Trees.{top_height}
use Rattle.rel_model.specs.Equations.{side_of}
use Rattle.rel_model.specs.Quads.{QuadStands}
use Rattle.rel_model.proofs.QuadLaws.{empty_quad}
use Rattle.bit_rows.specs.Places.{window}
use Rattle.quad_nodes.proofs.Making.{made_at}
use Rattle.rel_compose.specs.Products.{composition}
use Rattle.rel_compose.proofs.Joining.{eight_over, without_addend}
use Rattle.rel_compose.proofs.sums.product_window.Goals as goal

pub summed_quad-requires-clause-x_stands : goal.summed_quad-requires-clause-x_stands
summed_quad-requires-clause-x_stands c =
    let w = c.requires.within in
    let h = c.requires.a_stands.high in
    let l : c.args.height ≤ top_height = omega arith in
    subst (λ (q : Quad). QuadStands c.args.nodes.now q) (sym c.empty.ensures) (empty_quad c.args.nodes.now c.args.height 0 c.bottom.ensures.work (eight_over c.args.height c.requires.tall) l refl).stands

pub returns : goal.returns
returns c =
    let w = c.requires.within in
    let e : c.empty.result.height ≡ c.args.height = ap (λ (q : Quad). q.height) c.empty.ensures in
    made_at e (without_addend c.args.nodes.now c.args.height c.empty.result _ c.empty.ensures c.bottom.ensures.work (eight_over c.args.height c.requires.tall) (omega arith)
    ∙ ap (λ (h : ℕ). window c.args.row c.args.col (side_of h) (composition c.args.nodes.now c.args.a c.args.b)) e) c.summed_quad.ensures
