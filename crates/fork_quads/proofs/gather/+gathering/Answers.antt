use Rattle.std.proofs.Common.{◌+◌, ◌-◌, ◌*◌, ℕ, refl, sym, ◌∙◌, arith}
use Rattle.rel_model.proofs.QuadLaws.{reads_itself}
use Rattle.quad_nodes.proofs.Making.{AreParts, made_as, made_is, both_made, first_missed, second_missed, started, both_go_on, both_stop, ends, cornered, nw_under, ne_under, sw_under, se_under}
use Rattle.fork_quads.specs.Forks.{tiled}
use Rattle.fork_quads.proofs.Tiling.{HoldFour, last-least, last-grows, last-next, hold_four, hold_later, tiled-stay, tiled_parts, both_later, leaf_value, corners_next}
use Rattle.fork_quads.proofs.gather.+gathering.Goals.{gathered-After-beside}
use Rattle.fork_quads.proofs.gather.+gathering.Goals as goal

-- ---- two squares
pub beside-gathered-requires : goal.beside-gathered-requires
beside-gathered-requires t c =
    let d = c.decreases in
    let w = c.requires.within in
    let l = last-grows c.args.cuts c.args.number (c.args.number + 1) (omega arith) in
    (omega (arith, d), (c.requires.first, (omega (arith, w, l), (c.requires.size, (c.requires.deep, c.requires.high)))))

pub beside-overflow_add-number : goal.beside-overflow_add-number
beside-overflow_add-number t c = let w = c.requires.within in let l = last-least c.args.cuts (c.args.number + 1) in omega (arith, w, l)

pub beside-gathered-requires-2 : goal.beside-gathered-requires-2
beside-gathered-requires-2 t c =
    let d = c.decreases in
    (omega (arith, d), (hold_later _ c.args.nodes.now c.gathered.new.nodes _ c.args.cuts (c.args.number + 1) c.args.found.now c.in_ok-west.ensures.keeps c.requires.second, (c.requires.within, (c.requires.size, (c.requires.deep, c.requires.high)))))

pub beside-returns-in_err-west : goal.beside-returns-in_err-west
beside-returns-in_err-west t c = first_missed c.from_residual.result c.from_residual.ensures.0 (omega arith) c.in_err-west.ensures

pub beside-returns-in_err-east : goal.beside-returns-in_err-east
beside-returns-in_err-east t c =
    second_missed c.from_residual-in_err-east.result c.from_residual-in_err-east.ensures.0 (omega arith) c.in_ok-west.ensures
    (made_as refl (tiled-stay _ c.args.nodes.now c.gathered.new.nodes c.args.height c.args.cuts (c.args.number + 1) c.args.found.now c.in_ok-west.ensures.keeps c.requires.second) c.in_err-east.ensures)

pub beside-returns : goal.beside-returns
beside-returns t c =
    both_made (omega arith) c.in_ok-west.ensures
    (made_as refl (tiled-stay _ c.args.nodes.now c.gathered.new.nodes c.args.height c.args.cuts (c.args.number + 1) c.args.found.now c.in_ok-west.ensures.keeps c.requires.second) c.in_ok-east.ensures)

-- ---- a piece
pub gathered-returns-then-cuts-eq0 : goal.gathered-returns-then-cuts-eq0
gathered-returns-then-cuts-eq0 t c =
    let w = c.requires.within in
    let l = last-least c.args.cuts c.args.number in
    let z = c.requires.size in
    made_is (reads_itself c.args.nodes.now c.bottom.ensures.work)
    (leaf_value c.args.nodes.now c.args.height c.args.cuts c.args.number c.args.found.now _ _ c.if-cuts-eq0.true (omega (arith, w, l, z)) c.requires.pieces refl)

-- ---- the corner over two rows
parts : (t : ℕ) (c : gathered-After-beside t) → let h : ℕ = c.args.height in let k : ℕ = c.args.cuts - 1 in let n : ℕ = 4 * c.args.number in let w = c.args.nodes.now in let f = c.args.found.now in
    AreParts w h (tiled w h c.args.cuts c.args.number f) (h - 1) (tiled w (h - 1) k n f) (tiled w (h - 1) k (n + 1) f) (tiled w (h - 1) k (n + 2) f) (tiled w (h - 1) k (n + 2 + 1) f)
parts t c = tiled_parts c.args.nodes.now c.args.height c.args.cuts c.args.number c.args.found.now c.bottom.ensures.work c.if-cuts-eq0.false c.requires.deep c.requires.pieces

four : (t : ℕ) (c : gathered-After-beside t) → HoldFour c.args.nodes.now (c.args.height - 1) (c.args.cuts - 1) c.args.number c.args.found.now
four t c = hold_four c.args.nodes.now c.args.height c.args.cuts c.args.number c.args.found.now c.if-cuts-eq0.false c.requires.pieces

pub gathered-overflow_mul-first : goal.gathered-overflow_mul-first
gathered-overflow_mul-first t c = let w = c.requires.within in let l = last-least c.args.cuts c.args.number in omega (arith, w, l)

pub gathered-beside-requires : goal.gathered-beside-requires
gathered-beside-requires t c =
    let n = c.if-cuts-eq0.false in
    let d = c.decreases in
    let deep = c.requires.deep in
    let high = c.requires.high in
    let w = c.requires.within in
    let f = hold_four c.args.nodes.now c.args.height c.args.cuts c.args.number c.args.found.now n c.requires.pieces in
    let e = last-next c.args.cuts c.args.number n in
    let l = last-grows (c.args.cuts - 1) (4 * c.args.number + 1) (4 * c.args.number + 2 + 1) (omega arith) in
    (omega (arith, n, d), (f.nw, (f.ne, (omega (arith, w, e, l), (c.requires.size, (omega (arith, deep, n), omega (arith, high)))))))

pub gathered-overflow_add-first : goal.gathered-overflow_add-first
gathered-overflow_add-first t c = let w = c.requires.within in let l = last-least c.args.cuts c.args.number in omega (arith, w, l)

pub gathered-beside-requires-2 : goal.gathered-beside-requires-2
gathered-beside-requires-2 t c =
    let n = c.if-cuts-eq0.false in
    let d = c.decreases in
    let deep = c.requires.deep in
    let high = c.requires.high in
    let w = c.requires.within in
    let f = hold_four c.args.nodes.now c.args.height c.args.cuts c.args.number c.args.found.now n c.requires.pieces in
    let e = last-next c.args.cuts c.args.number n in
    let k = c.in_ok-north.ensures.keeps in (
      omega (arith, n, d),
      (
        hold_later _ c.args.nodes.now c.beside.new.nodes _ (c.args.cuts - 1) (4 * c.args.number + 2) c.args.found.now k f.sw,
        (hold_later _ c.args.nodes.now c.beside.new.nodes _ (c.args.cuts - 1) (4 * c.args.number + 2 + 1) c.args.found.now k f.se, (omega (arith, w, e), (c.requires.size, (omega (arith, deep, n), omega (arith, high))))),
      ),
    )

pub gathered-returns-in_err-north : goal.gathered-returns-in_err-north
gathered-returns-in_err-north t c =
    let at = (goal.at.gathered-returns-in_err-north t c).After-beside in
    let p = parts t at in
    let r = corners_next c.args.cuts c.if-cuts-eq0.false in
    both_stop c.from_residual.result c.from_residual.ensures.0 (omega (arith, r)) (started p) (nw_under p) (ne_under p) c.in_err-north.ensures

pub gathered-returns-in_err-south : goal.gathered-returns-in_err-south
gathered-returns-in_err-south t c =
    let at = (goal.at.gathered-returns-in_err-south t c).After-beside in
    let p = parts t at in
    let r = corners_next c.args.cuts c.if-cuts-eq0.false in
    let f = four t at in
    let u = both_go_on {x = c.in_ok-north.north.0} {y = c.in_ok-north.north.1} (started p) (nw_under p) (ne_under p) c.in_ok-north.ensures in
    both_stop c.from_residual-in_err-south.result c.from_residual-in_err-south.ensures.0 (omega (arith, r)) u (sw_under p) (se_under p) (both_later (c.args.height - 1) (c.args.cuts - 1) (4 * c.args.number + 2) (4 * c.args.number + 2 + 1) c.args.found.now c.in_ok-north.ensures.keeps f.sw f.se c.in_err-south.ensures)

pub gathered-corner-requires : goal.gathered-corner-requires
gathered-corner-requires t c =
    let at = (goal.at.gathered-corner-requires t c).After-beside in
    let p = parts t at in
    let f = four t at in
    let u = both_go_on {x = c.in_ok-north.north.0} {y = c.in_ok-north.north.1} (started p) (nw_under p) (ne_under p) c.in_ok-north.ensures in
    let v = both_go_on {x = c.in_ok-south.south.0} {y = c.in_ok-south.south.1} u (sw_under p) (se_under p) (both_later (c.args.height - 1) (c.args.cuts - 1) (4 * c.args.number + 2) (4 * c.args.number + 2 + 1) c.args.found.now c.in_ok-north.ensures.keeps f.sw f.se c.in_ok-south.ensures) in
    let a = v.are in
    let e = a.1.1.1.0.same_height in
    let n = c.if-cuts-eq0.false in
    let high = c.requires.high in
    let deep = c.requires.deep in
    record { nw_stands = a.1.1.1.0.stands; ne_stands = a.1.1.0.stands; sw_stands = a.1.0.stands; se_stands = a.0.stands; ne_height = a.1.1.0.same_height ∙ sym e; sw_height = a.1.0.same_height ∙ sym e; se_height = a.0.same_height ∙ sym e; below = omega (arith, e, n, high, deep) }

pub gathered-returns : goal.gathered-returns
gathered-returns t c =
    let at = (goal.at.gathered-returns t c).After-beside in
    let p = parts t at in
    let r = corners_next c.args.cuts c.if-cuts-eq0.false in
    let f = four t at in
    let u = both_go_on {x = c.in_ok-north.north.0} {y = c.in_ok-north.north.1} (started p) (nw_under p) (ne_under p) c.in_ok-north.ensures in
    let v = both_go_on {x = c.in_ok-south.south.0} {y = c.in_ok-south.south.1} u (sw_under p) (se_under p) (both_later (c.args.height - 1) (c.args.cuts - 1) (4 * c.args.number + 2) (4 * c.args.number + 2 + 1) c.args.found.now c.in_ok-north.ensures.keeps f.sw f.se c.in_ok-south.ensures) in
    let e = c.corner.ensures in
    ends (omega (arith, r)) v (cornered p v (record { value = e.value; stood = e.stood; keeps = e.keeps; counts = e.counts }))
