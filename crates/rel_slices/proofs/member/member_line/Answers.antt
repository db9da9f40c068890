use Rattle.std.proofs.Common.{◌≡◌, ◌≤◌, ◌+◌, ◌-◌, ◌^◌, ◌∙◌, ℕ, Some, refl, sym, ap, subst, arith}
use Rattle.std.specs.Prelude.{unwrap_or, Option, IsSome}
use Rattle.rel_model.specs.declared.Quad.{Quad}
use Rattle.rel_model.specs.Cells.{Cells, no_cells}
use Rattle.rel_model.specs.Relation.{relation_of}
use Rattle.rel_model.specs.Trees.{top_height}
use Rattle.rel_model.specs.Roots.{tree_room, height_over}
use Rattle.rel_model.specs.Worker.{quad_set, MakesAtMost}
use Rattle.rel_model.proofs.Heights.{power_up}
use Rattle.rel_model.proofs.Workers.{keeps_trans}
use Rattle.rel_slices.specs.Members.{member_cells, first_height}
use Rattle.rel_slices.proofs.Membering.{tree_more, tree_grows, quad_high, quad_given, member_double, member_relation, member_height, corner_upper}
use Rattle.rel_slices.proofs.member.member_line.Goals as goal

pub doublings-init : goal.doublings-init
doublings-init g c = record {
  gives = quad_high _ _ _ c.args.i c.in_ok-quad.quad (sym c.in_ok-quad.ensures.value.same_height) c.in_ok-quad.ensures.value;
  above = (let e = c.in_ok-quad.ensures.value.same_height in omega (arith, e));
  keeps = c.in_ok-quad.ensures.keeps;
  misses = c.in_ok-quad.ensures.cause.done;
  space = subst (λ (x : ℕ). MakesAtMost (tree_room (x - g.Q.Core.least)) (g.Q.Core.worker c.args.q.now) (g.Q.Core.worker c.first_quad.new.q)) (sym c.in_ok-quad.ensures.value.same_height) c.in_ok-quad.ensures.room;
}

pub doublings-preserved : goal.doublings-preserved
unfolding top_height
doublings-preserved g c =
    let h : ℕ = c.doublings.height in
    let i : ℕ = c.args.i in
    let v = c.doublings.invariant in
    let w0 = g.Q.Core.worker c.args.q.now in
    let w1 = g.Q.Core.worker c.doublings.q in
    let w2 = g.Q.Core.worker c.corner.new.self in
    let most = c.requires.few in
    let under = c.doublings-test.true in
    let low = g.met.Q.Quads.low_height c.doublings.q c.doublings.quad (subst (λ (o : Option Cells). IsSome o) (sym v.gives.means) refl) in
    let same = v.gives.same_height in
    let least : g.Q.Core.least ≤ h = omega (arith, low, same) in
    let none : w1.quad c.empty-none.result ≡ Some no_cells = subst (λ (q : Quad). w1.quad q ≡ Some no_cells) (sym c.empty-none.ensures) (g.met.Q.Quads.none c.doublings.q h least (omega (arith, most, under))) in
    let empty : quad_set w1 c.empty-none.result ≡ no_cells = ap (λ (o : Option Cells). unwrap_or o no_cells) none in
    let own = quad_given w1 h (member_cells h i) c.doublings.quad v.gives in
    let above = v.above in
    let space = v.space in
    let a = c.in_ok-quad-2.ensures.room in
    let m = tree_more (h - g.Q.Core.least) (h + 1 - g.Q.Core.least) (omega (arith, least)) in
    record {
      gives = corner_upper w1 w2 h c.doublings.quad.height (member_cells h i) (member_cells h i) (member_cells (h + 1) i) c.doublings.quad c.doublings.quad _ c.in_ok-quad-2.quad own own empty same (member_double h i (omega (arith, above))) c.in_ok-quad-2.ensures.value;
      above = omega (arith, above);
      keeps = keeps_trans w0 w1 w2 v.keeps c.in_ok-quad-2.ensures.keeps;
      misses = c.in_ok-quad-2.ensures.cause.done ∙ v.misses;
      space = omega (arith, space, a, m);
    }

pub returns-in_err-quad-clause-room : goal.returns-in_err-quad-clause-room
returns-in_err-quad-clause-room g c =
    let a = c.in_err-quad.ensures.room in
    let n = c.requires.element in
    let e = c.requires.enough in
    let l = g.met.Q.Quads.least_limit in
    let m = tree_grows (first_height g.Q.Core.least c.args.i - g.Q.Core.least) (c.args.x - g.Q.Core.least) (omega (arith, n, e, l)) in
    omega (arith, a, m)

pub returns-in_err-quad-2-clause-room : goal.returns-in_err-quad-2-clause-room
returns-in_err-quad-2-clause-room g c =
    let h : ℕ = c.doublings.height in
    let v = c.doublings.invariant in
    let under = c.doublings-test.true in
    let low = g.met.Q.Quads.low_height c.doublings.q c.doublings.quad (subst (λ (o : Option Cells). IsSome o) (sym v.gives.means) refl) in
    let same = v.gives.same_height in
    let least : g.Q.Core.least ≤ h = omega (arith, low, same) in
    let space = v.space in
    let a = c.in_err-quad-2.ensures.room in
    let m = tree_more (h - g.Q.Core.least) (h + 1 - g.Q.Core.least) (omega (arith, least)) in
    let n = tree_grows (h + 1 - g.Q.Core.least) (c.args.x - g.Q.Core.least) (omega (arith, under)) in
    omega (arith, space, a, m, n)

pub rel-requires-clause-col_limit : goal.rel-requires-clause-col_limit
rel-requires-clause-col_limit g c = let few = c.requires.few in let e = c.side_of.ensures in let p = power_up c.args.x 24 few in omega (arith, e, p)

pub rel-requires-clause-height : goal.rel-requires-clause-height
rel-requires-clause-height g c =
    let l = g.met.Q.Quads.least_limit in
    let same = c.doublings.invariant.gives.same_height in
    let over = c.doublings-test.false in
    let n = c.requires.element in
    let e = c.requires.enough in
    let f = c.in_ok-quad.ensures.value.same_height in
    let t = c.doublings.auto.height-end in
    let h : c.doublings.quad.height ≡ c.args.x = omega (arith, same, over, n, e, f, l, t) in
    h ∙ sym (member_height g.Q.Core.least c.args.x l c.requires.enough c.requires.few) ∙ ap (height_over g.Q.Core.least 1) (sym c.side_of.ensures)

pub returns-clause-value : goal.returns-clause-value
returns-clause-value g c =
    let w = g.Q.Core.worker c.doublings.q in
    let l = g.met.Q.Quads.least_limit in
    let over = c.doublings-test.false in
    let n = c.requires.element in
    let e = c.requires.enough in
    let f = c.in_ok-quad.ensures.value.same_height in
    let t = c.doublings.auto.height-end in
    let h : c.doublings.height ≡ c.args.x = omega (arith, over, n, e, f, l, t) in
    let own : quad_set w c.doublings.quad ≡ member_cells c.args.x c.args.i = quad_given w c.doublings.height _ c.doublings.quad c.doublings.invariant.gives ∙ ap (λ (x : ℕ). member_cells x c.args.i) h in
    record {
      means = c.rel.ensures.means ∙ ap Some (ap (λ (x : ℕ). relation_of 1 x (quad_set w c.doublings.quad)) c.side_of.ensures ∙ ap (relation_of 1 (2 ^ c.args.x)) own ∙ member_relation c.args.x c.args.i);
      row_size = c.rel.ensures.row_size;
      col_size = c.rel.ensures.col_size ∙ c.side_of.ensures;
    }
