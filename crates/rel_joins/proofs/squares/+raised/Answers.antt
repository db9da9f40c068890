use Rattle.std.proofs.Common.{◌<◌, ◌+◌, ◌-◌, ◌*◌, ◌^◌, max, ℕ, refl, sym, subst, arith, length, get_or}
use Rattle.rel_model.specs.declared.Quad.{Quad}
use Rattle.rel_model.specs.Quarters.{LiesWithin}
use Rattle.rel_model.specs.Worker.{quad_set, GivesQuad}
use Rattle.bit_rows.specs.Places.{window}
use Rattle.std.proofs.lemmas.List.{get_or_default}
use Rattle.rel_model.proofs.Workers.{keeps_itself}
use Rattle.rel_steps.proofs.Causes.{done_cause}
use Rattle.rel_steps.proofs.Making.{begun, failed, stops, four_stand, corner_made}
use Rattle.rel_joins.specs.Columns.{no_square, tiled}
use Rattle.rel_joins.proofs.Raising.{squares_kept, place_below, square_value, outside_value, raised_parts, over_square, quarters, one_made, two_made, three_made, four_made, raise_next, not_top, under_top}
use Rattle.rel_joins.proofs.squares.+raised.Goals as goal

-- ---- no square, and one
pub returns-then-max-blocks : goal.returns-then-max-blocks
returns-then-max-blocks g t c =
    let o = c.args.q.now in
    let a = c.requires.leaf in
    let l = c.requires.low in
    record {
      value = outside_value (g.Q.Core.worker o) c.args.height c.args.blocks c.args.row c.args.col c.args.squares.now c.empty.result (omega (arith, c.if-max-blocks.true, c.max.ensures)) c.empty.ensures (g.met.Q.Quads.none o c.args.height (omega (arith, a, l)) (under_top c.args.height c.requires.high));
      keeps = keeps_itself _;
      room = omega arith;
      cause = done_cause _ _ _ _ refl;
    }

pub returns-then-height-eq-SQUARE : goal.returns-then-height-eq-SQUARE
returns-then-height-eq-SQUARE g t c =
    let a = c.args in
    let w = g.Q.Core.worker a.q.now in
    let below : max a.row a.col < a.blocks = omega (arith, c.if-max-blocks.false, c.max.ensures) in
    let row : a.row < a.blocks = omega (arith, below) in
    let col : a.col < a.blocks = omega (arith, below) in
    let p = place_below a.blocks a.row a.col row col in
    let k : a.col * a.blocks + a.row < length a.squares.now = omega (arith, p, c.requires.all) in
    let q = get_or a.squares.now (a.col * a.blocks + a.row) no_square in
    let s = c.requires.squares in
    let f = s.high (a.col * a.blocks + a.row) k in
    let z = get_or_default a.squares.now (a.col * a.blocks + a.row) _ no_square k in
    record {
      value = subst (λ (x : Quad). GivesQuad w a.height (window (256 * a.row) (256 * a.col) (2 ^ a.height) (tiled w a.blocks a.squares.now)) x) (sym z)
          (square_value w a.height a.blocks a.row a.col a.squares.now q (omega (arith, c.if-height-eq-SQUARE.true)) row col refl (s.stand (a.col * a.blocks + a.row) k) f
          (subst (λ (m : ℕ). LiesWithin (2 ^ m) (2 ^ m) (quad_set w q)) f (g.met.Q.Quads.square a.q.now q (s.stand (a.col * a.blocks + a.row) k))));
      keeps = keeps_itself _;
      room = omega arith;
      cause = done_cause _ _ _ _ refl;
    }

-- ---- four quarters, and their corner
pub raised-requires : goal.raised-requires
raised-requires g t c κs within =
    let a = c.args in
    let over = over_square c.requires.low c.if-height-eq-SQUARE.false in
    let falls : a.height - 1 < t = (let d = c.decreases in omega (arith, over, d)) in
    let q = quarters a.height c.side_of-half.result a.row a.col over c.requires.high c.side_of-half.ensures c.requires.row_in c.requires.col_in in
    (falls, (within, (c.requires.leaf, (q.low, (q.high, (c.requires.all, (c.requires.squares, (q.upper, q.left))))))))

pub raised-requires-2 : goal.raised-requires-2
raised-requires-2 g t c κs within =
    let a = c.args in
    let over = over_square c.requires.low c.if-height-eq-SQUARE.false in
    let falls : a.height - 1 < t = (let d = c.decreases in omega (arith, over, d)) in
    let q = quarters a.height c.side_of-half.result a.row a.col over c.requires.high c.side_of-half.ensures c.requires.row_in c.requires.col_in in
    (falls, (within, (c.requires.leaf, (q.low, (q.high, (c.requires.all, (squares_kept c.requires.squares (one_made c.in_ok-nw.ensures).keeps, (q.upper, q.right))))))))

pub raised-requires-3 : goal.raised-requires-3
raised-requires-3 g t c κs within =
    let a = c.args in
    let over = over_square c.requires.low c.if-height-eq-SQUARE.false in
    let falls : a.height - 1 < t = (let d = c.decreases in omega (arith, over, d)) in
    let q = quarters a.height c.side_of-half.result a.row a.col over c.requires.high c.side_of-half.ensures c.requires.row_in c.requires.col_in in
    (falls, (within, (c.requires.leaf, (q.low, (q.high, (c.requires.all, (squares_kept c.requires.squares (two_made a.height a.blocks a.row a.col c.side_of-half.result c.requires.squares c.requires.all c.in_ok-nw.ensures c.in_ok-ne.ensures).keeps, (q.lower, q.left))))))))

pub raised-requires-4 : goal.raised-requires-4
raised-requires-4 g t c κs within =
    let a = c.args in
    let over = over_square c.requires.low c.if-height-eq-SQUARE.false in
    let falls : a.height - 1 < t = (let d = c.decreases in omega (arith, over, d)) in
    let q = quarters a.height c.side_of-half.result a.row a.col over c.requires.high c.side_of-half.ensures c.requires.row_in c.requires.col_in in
    (falls, (within, (c.requires.leaf, (q.low, (q.high, (c.requires.all, (squares_kept c.requires.squares (three_made a.height a.blocks a.row a.col c.side_of-half.result c.requires.squares c.requires.all c.in_ok-nw.ensures c.in_ok-ne.ensures c.in_ok-sw.ensures).keeps, (q.lower, q.right))))))))

pub returns-in_err-nw : goal.returns-in_err-nw
returns-in_err-nw g t c = let r = raise_next c.args.height (over_square c.requires.low c.if-height-eq-SQUARE.false) in stops c.from_residual.result c.from_residual.ensures.1 (omega (arith, r)) (begun {h = 0} _) c.in_err-nw.ensures

pub returns-in_err-ne : goal.returns-in_err-ne
returns-in_err-ne g t c = let r = raise_next c.args.height (over_square c.requires.low c.if-height-eq-SQUARE.false) in stops c.from_residual-in_err-ne.result c.from_residual-in_err-ne.ensures.1 (omega (arith, r)) (one_made c.in_ok-nw.ensures) c.in_err-ne.ensures

pub returns-in_err-sw : goal.returns-in_err-sw
returns-in_err-sw g t c =
    let a = c.args in
    let r = raise_next a.height (over_square c.requires.low c.if-height-eq-SQUARE.false) in
    stops c.from_residual-in_err-sw.result c.from_residual-in_err-sw.ensures.1 (omega (arith, r)) (two_made a.height a.blocks a.row a.col c.side_of-half.result c.requires.squares c.requires.all c.in_ok-nw.ensures c.in_ok-ne.ensures) c.in_err-sw.ensures

pub returns-in_err-se : goal.returns-in_err-se
returns-in_err-se g t c =
    let a = c.args in
    let r = raise_next a.height (over_square c.requires.low c.if-height-eq-SQUARE.false) in
    stops c.from_residual-in_err-se.result c.from_residual-in_err-se.ensures.1 (omega (arith, r)) (three_made a.height a.blocks a.row a.col c.side_of-half.result c.requires.squares c.requires.all c.in_ok-nw.ensures c.in_ok-ne.ensures c.in_ok-sw.ensures) c.in_err-se.ensures

pub corner-requires : goal.corner-requires
corner-requires g t c =
    let a = c.args in
    let made = (four_made a.height a.blocks a.row a.col c.side_of-half.result c.requires.squares c.requires.all c.in_ok-nw.ensures c.in_ok-ne.ensures c.in_ok-sw.ensures c.in_ok-se.ensures).are in
    let f = four_stand made.1.1.1.0 made.1.1.0 made.1.0 made.0 in
    let below = not_top c.in_ok-nw.nw.height a.height c.in_ok-nw.ensures.value.same_height c.requires.high in
    record { nw_stands = f.nw_stands; ne_stands = f.ne_stands; sw_stands = f.sw_stands; se_stands = f.se_stands; ne_height = f.ne_height; sw_height = f.sw_height; se_height = f.se_height; below = below }

pub returns-in_err-all : goal.returns-in_err-all
returns-in_err-all g t c =
    let a = c.args in
    let r = raise_next a.height (over_square c.requires.low c.if-height-eq-SQUARE.false) in
    let e = c.in_err-all.ensures in
    stops c.from_residual-in_err-all.result c.from_residual-in_err-all.ensures.1 (omega (arith, r)) (four_made a.height a.blocks a.row a.col c.side_of-half.result c.requires.squares c.requires.all c.in_ok-nw.ensures c.in_ok-ne.ensures c.in_ok-sw.ensures c.in_ok-se.ensures) (failed 3 e.keeps e.room e.cause)

pub returns : goal.returns
returns g t c =
    let a = c.args in
    let over = over_square c.requires.low c.if-height-eq-SQUARE.false in
    let r = raise_next a.height over in
    let p = raised_parts a.height a.row a.col c.side_of-half.result (tiled (g.Q.Core.worker a.q.now) a.blocks a.squares.now) over c.side_of-half.ensures in
    let e = c.in_ok-all.ensures in
    corner_made (omega (arith, r)) p (four_made a.height a.blocks a.row a.col c.side_of-half.result c.requires.squares c.requires.all c.in_ok-nw.ensures c.in_ok-ne.ensures c.in_ok-sw.ensures c.in_ok-se.ensures) e.value e.keeps e.room e.cause
