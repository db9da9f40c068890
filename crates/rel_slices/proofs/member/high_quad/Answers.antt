use Rattle.std.proofs.Common.{◌≡◌, ◌+◌, ◌^◌, ◌∙◌, ℕ, Some, sym, ap, subst, arith}
use Rattle.std.specs.Prelude.{unwrap_or, Option}
use Rattle.rel_model.specs.declared.Quad.{Quad}
use Rattle.rel_model.specs.Cells.{Cells, no_cells, cells_rect}
use Rattle.rel_model.specs.Trees.{top_height}
use Rattle.rel_model.specs.Worker.{quad_set}
use Rattle.rel_slices.specs.Members.{member_cells}
use Rattle.rel_slices.proofs.Membering.{quad_given, member_first, corner_upper}
use Rattle.rel_slices.proofs.member.high_quad.Goals as goal

pub returns-clause-value : goal.returns-clause-value
unfolding top_height
returns-clause-value g c =
    let h : ℕ = c.args.i in
    let w1 = g.Q.Core.worker c.rect.new.self in
    let none : w1.quad c.empty-none.result ≡ Some no_cells = subst (λ (q : Quad). w1.quad q ≡ Some no_cells) (sym c.empty-none.ensures) (g.met.Q.Quads.none c.rect.new.self h c.requires.low (let l = c.requires.high in omega (arith, l))) in
    let empty : quad_set w1 c.empty-none.result ≡ no_cells = ap (λ (o : Option Cells). unwrap_or o no_cells) none in
    corner_upper w1 (g.Q.Core.worker c.corner.new.self) h c.empty-none.result.height no_cells (cells_rect 1 (2 ^ h)) (member_cells (h + 1) h) _ c.in_ok-all.all _ c.in_ok-quad.quad
    empty (quad_given w1 h (cells_rect 1 c.side_of.result) c.in_ok-all.all c.in_ok-all.ensures.value ∙ ap (cells_rect 1) c.side_of.ensures) empty (ap (λ (q : Quad). q.height) c.empty-none.ensures) (member_first h) c.in_ok-quad.ensures.value
