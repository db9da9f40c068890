-- The union of a quad and a product: after a look at the operands, and in rows.
use Rattle.std.proofs.Common.{◌≡◌, ◌≤◌, ◌+◌, ◌∙◌, ℕ, Result, IfOk, ap, subst, arith}
use Rattle.rel_model.specs.declared.Quad.{Quad}
use Rattle.rel_model.specs.Cells.{Cells, cells_union, cells_compose}
use Rattle.rel_model.specs.Equations.{side_of}
use Rattle.rel_model.specs.Quads.{Keeper, QuadStands, IsQuad, quad_cells, KeepsQuads, ReadsQuads, quad_room, compose_room}
use Rattle.rel_model.proofs.QuadLaws.{keeps_on, keeps_most, quad_stays, quad_cells-stay}
use Rattle.quad_nodes.specs.Making.{MakesQuad}
use Rattle.fork_quads.specs.Forks.{TellsMisses}
use Rattle.fork_quads.proofs.Joining.{tells_after, counts_tells}

-- a quad stands after a call that reads
pub read_stands : {v w : Keeper} {q : Quad} → ReadsQuads v w → QuadStands v q → QuadStands w q
read_stands {v} {w} {q} r s = quad_stays 0 v w q r.keeps s

-- the cells of x | y*z
abbrev pub union_cells : Keeper → Quad → Quad → Quad → Cells
union_cells w x y z = cells_union (quad_cells w x) (cells_compose (side_of x.height) (quad_cells w y) (quad_cells w z))

-- a call answers that union, or counts misses; it keeps all that stood
pub record DidUnion {E : Type 0} (old new : Keeper) (x y z : Quad) (result : Result Quad E) : Type 0 where
  pub value : IfOk result (IsQuad new x.height (union_cells old x y z))
  pub keeps : KeepsQuads (compose_room x.height + quad_room x.height) old new
  pub misses : TellsMisses old new result

-- in rows it places no more words than one result has
pub union_in_rows : {E : Type 0} {v w : Keeper} (x y z : Quad) {r : Result Quad E} → MakesQuad (quad_room x.height) x.height (union_cells v x y z) v w r → DidUnion v w x y z r
union_in_rows {E} {v} {w} x y z {r} s = record {
  value = s.value;
  keeps = (let l : quad_room x.height ≤ compose_room x.height + quad_room x.height = omega arith in keeps_most (quad_room x.height) (compose_room x.height + quad_room x.height) v w l s.keeps);
  misses = counts_tells v w r s.counts;
}

-- after a call that reads
pub union_after : {E : Type 0} {u v w : Keeper} {x y z : Quad} {r : Result Quad E} → ReadsQuads u v → QuadStands u x → QuadStands u y → QuadStands u z → DidUnion v w x y z r → DidUnion u w x y z r
union_after {E} {u} {v} {w} {x} {y} {z} {r} a hx hy hz s =
    let m : ℕ = side_of x.height in
    let most : ℕ = compose_room x.height + quad_room x.height in
    let l : 0 + most ≤ most = omega arith in
    let same : union_cells v x y z ≡ union_cells u x y z =
    ap (λ (f : Cells). cells_union f (cells_compose m (quad_cells v y) (quad_cells v z))) (quad_cells-stay 0 u v x a.keeps hx)
    ∙ ap (λ (f : Cells). cells_union (quad_cells u x) (cells_compose m f (quad_cells v z))) (quad_cells-stay 0 u v y a.keeps hy)
    ∙ ap (λ (f : Cells). cells_union (quad_cells u x) (cells_compose m (quad_cells u y) f)) (quad_cells-stay 0 u v z a.keeps hz) in
    record {
      value = subst (λ (f : Cells). IfOk r (IsQuad w x.height f)) same s.value;
      keeps = keeps_most (0 + most) most u w l (keeps_on 0 most u v w a.keeps s.keeps);
      misses = tells_after u v w r a.misses s.misses;
    }
