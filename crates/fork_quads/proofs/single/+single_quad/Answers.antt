use Rattle.std.proofs.Common.{◌≡◌, ◌<◌, ◌≤◌, ◌+◌, ◌-◌, cond, ℕ, Bool, refl, sym, ◌∙◌, arith}
use Rattle.rel_model.specs.declared.Quad.{Quad}
use Rattle.rel_model.specs.Cells.{Cells, no_cells}
use Rattle.rel_model.specs.Trees.{bottom_height, top_height}
use Rattle.rel_model.specs.Quads.{Keeper, IsKeeper, IsQuad, quad_room}
use Rattle.rel_model.proofs.QuadLaws.{keeps_on, keeps_most, rooms-next}
use Rattle.fork_quads.specs.Crew.{placed}
use Rattle.fork_quads.proofs.Placing.{placed_as, one_corner, in_half-below}
use Rattle.fork_quads.proofs.single.+single_quad.Goals as goal

pub single_quad-requires : goal.single_quad-requires
single_quad-requires t c =
    let over : bottom_height < c.args.height = (let e = c.bottom-bottom.ensures.height in let l = c.requires.low in let n = c.if-height-bottom.false in omega arith) in (
      omega arith,
      (
        omega arith,
        (
          omega arith,
          (
            in_half-below c.args.height c.side_of_height-half.result c.args.i c.in_half.result over c.requires.row c.side_of_height-half.ensures c.in_half.ensures,
            in_half-below c.args.height c.side_of_height-half.result c.args.j c.in_half-2.result over c.requires.col c.side_of_height-half.ensures c.in_half-2.ensures,
          ),
        ),
      ),
    )

-- each quarter stands, at the height below
quarter : (here : Bool) (w : Keeper) (h : ℕ) (f : Cells) (one q : Quad) → IsKeeper w → bottom_height ≤ h → h ≤ top_height → IsQuad w h f one → q ≡ placed here one → IsQuad w h (cond here f no_cells) q
quarter here w h f one q i l t s e = placed_as w h f here here one q i l t s refl e

pub corner-requires : goal.corner-requires
corner-requires t c =
    let over : bottom_height < c.args.height = (let e = c.bottom-bottom.ensures.height in let l = c.requires.low in let n = c.if-height-bottom.false in omega arith) in
    let w : Keeper = c.single_quad.new.nodes in
    let h : ℕ = c.args.height - 1 in
    let low : bottom_height ≤ h = omega arith in
    let high : h ≤ top_height = (let l = c.requires.high in omega arith) in
    let i = c.in_ok-one.ensures.keeps.after in
    let s = c.in_ok-one.ensures.value in
    let q0 = quarter _ w h _ c.in_ok-one.one c.placed.result i low high s c.placed.ensures in
    let q1 = quarter _ w h _ c.in_ok-one.one c.placed-2.result i low high s c.placed-2.ensures in
    let q2 = quarter _ w h _ c.in_ok-one.one c.placed-3.result i low high s c.placed-3.ensures in
    let q3 = quarter _ w h _ c.in_ok-one.one c.placed-4.result i low high s c.placed-4.ensures in
    record {
      nw_stands = q0.stands;
      ne_stands = q1.stands;
      sw_stands = q2.stands;
      se_stands = q3.stands;
      ne_height = q1.same_height ∙ sym q0.same_height;
      sw_height = q2.same_height ∙ sym q0.same_height;
      se_height = q3.same_height ∙ sym q0.same_height;
      below = (let e = q0.same_height in let l = c.requires.high in omega arith);
    }

pub returns-clause-value : goal.returns-clause-value
returns-clause-value t c =
    let over : bottom_height < c.args.height = (let e = c.bottom-bottom.ensures.height in let l = c.requires.low in let n = c.if-height-bottom.false in omega arith) in
    one_corner c.single_quad.new.nodes c.corner.new.self c.args.height c.side_of_height-half.result c.args.i c.args.j c.in_half.result c.in_half-2.result c.in_ok-one.one c.placed.result c.placed-2.result c.placed-3.result c.placed-4.result
    c.corner.result c.in_ok-one.ensures.keeps.after over c.requires.high c.side_of_height-half.ensures c.in_half.ensures c.in_half-2.ensures c.in_ok-one.ensures.value c.placed.ensures c.placed-2.ensures c.placed-3.ensures c.placed-4.ensures c.corner.ensures.value

-- one corner more has room
room-next : (h : ℕ) → bottom_height < h → quad_room (h - 1) + 3 ≤ quad_room h
room-next h l = let a = rooms-next h l in omega (arith, a)

pub returns-clause-keeps : goal.returns-clause-keeps
returns-clause-keeps t c =
    let over : bottom_height < c.args.height = (let e = c.bottom-bottom.ensures.height in let l = c.requires.low in let n = c.if-height-bottom.false in omega arith) in
    keeps_most (quad_room (c.args.height - 1) + 3) (quad_room c.args.height) c.args.nodes.now c.corner.new.self (room-next c.args.height over)
    (keeps_on (quad_room (c.args.height - 1)) 3 c.args.nodes.now c.single_quad.new.nodes c.corner.new.self c.in_ok-one.ensures.keeps c.corner.ensures.keeps)
