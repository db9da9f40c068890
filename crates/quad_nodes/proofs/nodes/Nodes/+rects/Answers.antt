use Rattle.std.proofs.Common.{◌≡◌, ◌<◌, ◌≤◌, ◌-◌, ◌⊎◌, ◌∙◌, min, ℕ, Ok, ap, inl, inr, arith, sym, refl, subst}
use Rattle.rel_model.specs.Trees.{bottom_height}
use Rattle.rel_model.specs.Equations.{side_of}
use Rattle.rel_model.specs.declared.Quad.{Quad}
use Rattle.rel_model.specs.Cells.{cells_rect}
use Rattle.rel_model.specs.Quads.{quad_room, IsQuad}
use Rattle.rel_model.proofs.QuadLaws.{keeps_most, side_of-next, rooms-next, room-some, reads_itself}
use Rattle.quad_nodes.proofs.Squaring.{rect_none, rect_parts}
use Rattle.quad_nodes.proofs.Making.{AreParts, made_as, made_is, both_made, first_missed, second_missed, both_are, both_go_on, both_stop, ends, started, nw_under, ne_under, sw_under, se_under, cornered}
use Rattle.quad_nodes.proofs.nodes.Nodes.+rects.Goals as goal
use Rattle.quad_nodes.proofs.nodes.Nodes.+rects.Goals.{rect-then-rows-eq0-via-then-rows-eq0, rect-then-rows-eq0-via-else-rows-eq0+then-cols-eq0, rect-After-min-top, rect-In_ok-nw, rect-In_ok-sw}

pub rect-returns-then-rows-eq0 : goal.rect-returns-then-rows-eq0
rect-returns-then-rows-eq0 t c =
    let w = c.args.self.now in
    let i = c.bottom-bottom.ensures.work in
    let z : (c.args.rows ≡ 0) ⊎ (c.args.cols ≡ 0) = elim c.then-rows-eq0.branch [ rect-then-rows-eq0-via-then-rows-eq0 w ↦ inl w.if-rows-eq0.true | rect-then-rows-eq0-via-else-rows-eq0+then-cols-eq0 w ↦ inr w.if-cols-eq0.true ] in
    let e : IsQuad w c.args.height (cells_rect c.args.rows c.args.cols) c.empty.result = subst (λ (q : Quad). IsQuad w c.args.height (cells_rect c.args.rows c.args.cols) q) (sym c.empty.ensures) (rect_none w c.args.height c.args.rows c.args.cols i c.requires.low c.requires.high z) in
    let m = made_is {m = quad_room c.args.height} (reads_itself w i) e in
    record { value = m.value; nothing = λ y. ap Ok c.empty.ensures; stood = m.stood; keeps = m.keeps; counts = m.counts }

pub rect-returns-then-height-bottom-clause-keeps : goal.rect-returns-then-height-bottom-clause-keeps
rect-returns-then-height-bottom-clause-keeps t c =
    let r = room-some c.args.height c.requires.low in
    let l : 1 ≤ quad_room c.args.height = omega (arith, r) in
    keeps_most 1 (quad_room c.args.height) c.args.self.now c.block.new.self l c.block.ensures.keeps

pub rect-returns-then-height-bottom-clause-nothing : goal.rect-returns-then-height-bottom-clause-nothing
rect-returns-then-height-bottom-clause-nothing t c = λ z. elim z [ inl x ↦ absurd (c.if-rows-eq0.false x) | inr y ↦ absurd (c.if-cols-eq0.false y) ]

-- ---- over the blocks
over_blocks : (t : ℕ) (c : rect-After-min-top t) → bottom_height < c.args.height
over_blocks t c = let e = c.bottom-bottom.ensures.height in let l = c.requires.low in let n = c.if-height-bottom.false in omega arith

some : (t : ℕ) (c : rect-After-min-top t) → (c.args.rows ≡ 0) ⊎ (c.args.cols ≡ 0) → ⊥
some t c z = elim z [ inl x ↦ c.if-rows-eq0.false x | inr y ↦ c.if-cols-eq0.false y ]

parts : (t : ℕ) (c : rect-After-min-top t) → let h : ℕ = c.args.height - 1 in let m : ℕ = side_of h in let top : ℕ = c.min-top.result in
    AreParts c.args.self.now c.args.height (cells_rect c.args.rows c.args.cols) h (cells_rect top (min c.args.cols m)) (cells_rect top (c.args.cols - m)) (cells_rect (c.args.rows - top) (min c.args.cols m)) (cells_rect (c.args.rows - top) (c.args.cols - m))
parts t c = rect_parts c.args.self.now c.args.height c.args.rows c.args.cols c.min-top.result c.bottom-bottom.ensures.work (over_blocks t c) c.requires.row c.requires.col (omega arith)

pub rect-rects_beside-requires : goal.rect-rects_beside-requires
rect-rects_beside-requires t c =
    let over : bottom_height < c.args.height = (let e = c.bottom-bottom.ensures.height in let l = c.requires.low in let n = c.if-height-bottom.false in omega arith) in
    let e = side_of-next c.args.height over in
    (omega arith, (omega arith, (omega arith, (omega arith, omega (arith, e)))))

pub rect-returns-in_err-nw : goal.rect-returns-in_err-nw
rect-returns-in_err-nw t c =
    let at = (goal.at.rect-returns-in_err-nw t c).After-min-top in
    let p = parts t at in
    let r = rooms-next c.args.height (over_blocks t at) in
    let w = both_stop c.from_residual.result c.from_residual.ensures.0 (omega (arith, r)) (started p) (nw_under p) (ne_under p) c.in_err-nw.ensures in
    record { value = w.value; nothing = λ z. absurd (some t at z); stood = w.stood; keeps = w.keeps; counts = w.counts }

pub rect-returns-then-rows-top : goal.rect-returns-then-rows-top
rect-returns-then-rows-top t c =
    let at = (goal.at.rect-returns-then-rows-top t c).After-min-top in
    let p = parts t at in
    let r = rooms-next c.args.height (over_blocks t at) in
    let u = both_go_on (started p) (nw_under p) (ne_under p) c.in_ok-nw.ensures in
    let v = c.in_ok-nw.ensures.value in
    let same : c.min-top.result ≡ c.args.rows - c.min-top.result = omega arith in
    let again : (q : Quad) (n : ℕ) → IsQuad c.rects_beside.new.self (c.args.height - 1) (cells_rect c.min-top.result n) q → IsQuad c.rects_beside.new.self (c.args.height - 1) (cells_rect (c.args.rows - c.min-top.result) n) q = λ q n i. subst (λ (x : ℕ). IsQuad c.rects_beside.new.self (c.args.height - 1) (cells_rect x n) q) same i in
    let x = both_go_on u (sw_under p) (se_under p) (both_are {E = Unit {0}} c.in_ok-nw.ensures.keeps.after (again _ _ v.0) (again _ _ v.1)) in
    let w = ends (omega (arith, r)) x (cornered p x (record { value = c.corner.ensures.value; stood = c.corner.ensures.stood; keeps = c.corner.ensures.keeps; counts = c.corner.ensures.counts })) in
    record { value = w.value; nothing = λ z. absurd (some t at z); stood = w.stood; keeps = w.keeps; counts = w.counts }

pub rect-rects_beside-requires-2 : goal.rect-rects_beside-requires-2
rect-rects_beside-requires-2 t c =
    let over : bottom_height < c.args.height = (let e = c.bottom-bottom.ensures.height in let l = c.requires.low in let n = c.if-height-bottom.false in omega arith) in
    let e = side_of-next c.args.height over in
    (omega arith, (omega arith, (omega arith, (omega (arith, e), omega (arith, e)))))

pub rect-returns-in_err-sw : goal.rect-returns-in_err-sw
rect-returns-in_err-sw t c =
    let at = (goal.at.rect-returns-in_err-sw t c).After-min-top in
    let p = parts t at in
    let r = rooms-next c.args.height (over_blocks t at) in
    let u = both_go_on (started p) (nw_under p) (ne_under p) c.in_ok-nw.ensures in
    let w = both_stop c.from_residual-in_err-sw.result c.from_residual-in_err-sw.ensures.0 (omega (arith, r)) u (sw_under p) (se_under p) c.in_err-sw.ensures in
    record { value = w.value; nothing = λ z. absurd (some t at z); stood = w.stood; keeps = w.keeps; counts = w.counts }

pub rect-returns : goal.rect-returns
rect-returns t c =
    let at = (goal.at.rect-returns t c).After-min-top in
    let p = parts t at in
    let r = rooms-next c.args.height (over_blocks t at) in
    let u = both_go_on (started p) (nw_under p) (ne_under p) c.in_ok-nw.ensures in
    let x = both_go_on u (sw_under p) (se_under p) c.in_ok-sw.ensures in
    let w = ends (omega (arith, r)) x (cornered p x (record { value = c.corner-2.ensures.value; stood = c.corner-2.ensures.stood; keeps = c.corner-2.ensures.keeps; counts = c.corner-2.ensures.counts })) in
    record { value = w.value; nothing = λ z. absurd (some t at z); stood = w.stood; keeps = w.keeps; counts = w.counts }

-- ---- corners
pub rect-corner-requires : goal.rect-corner-requires
rect-corner-requires t c =
    let v = c.in_ok-nw.ensures.value in
    let e = v.1.same_height ∙ sym v.0.same_height in
    let over = over_blocks t (goal.at.rect-corner-requires t c).After-min-top in
    record { nw_stands = v.0.stands; ne_stands = v.1.stands; sw_stands = v.0.stands; se_stands = v.1.stands; ne_height = e; sw_height = refl; se_height = e; below = omega (arith, over, v.0.same_height, c.requires.high) }

pub rect-corner-requires-2 : goal.rect-corner-requires-2
rect-corner-requires-2 t c =
    let at = goal.at.rect-corner-requires-2 t c in
    let p = parts t at.After-min-top in
    let u = both_go_on (started p) (nw_under p) (ne_under p) c.in_ok-nw.ensures in
    let a = (both_go_on u (sw_under p) (se_under p) c.in_ok-sw.ensures).are in
    let e = a.1.1.1.0.same_height in
    let over = over_blocks t at.After-min-top in
    record {
      nw_stands = a.1.1.1.0.stands;
      ne_stands = a.1.1.0.stands;
      sw_stands = a.1.0.stands;
      se_stands = a.0.stands;
      ne_height = a.1.1.0.same_height ∙ sym e;
      sw_height = a.1.0.same_height ∙ sym e;
      se_height = a.0.same_height ∙ sym e;
      below = omega (arith, over, e, c.requires.high);
    }

-- ---- two beside one another
pub rects_beside-rect-requires : goal.rects_beside-rect-requires
rects_beside-rect-requires t c = (omega arith, (c.requires.low, (omega (arith, c.requires.high), (c.requires.row, omega (arith, c.min-left.ensures, c.side_of_height.ensures)))))

pub rects_beside-rect-requires-2 : goal.rects_beside-rect-requires-2
rects_beside-rect-requires-2 t c = (omega arith, (c.requires.low, (omega (arith, c.requires.high), (c.requires.row, omega (arith, c.min-left.ensures, c.side_of_height.ensures, c.requires.col)))))

pub rects_beside-returns-in_err-west : goal.rects_beside-returns-in_err-west
rects_beside-returns-in_err-west t c =
    let left : cells_rect c.args.rows c.min-left.result ≡ cells_rect c.args.rows (min c.args.cols (side_of c.args.height)) = ap (λ (x : ℕ). cells_rect c.args.rows x) (omega arith) in
    let a = made_as refl left (record { value = c.in_err-west.ensures.value; stood = c.in_err-west.ensures.stood; keeps = c.in_err-west.ensures.keeps; counts = c.in_err-west.ensures.counts }) in
    first_missed c.from_residual.result c.from_residual.ensures.0 (omega arith) a

pub rects_beside-returns-then-cols-left : goal.rects_beside-returns-then-cols-left
rects_beside-returns-then-cols-left t c =
    let left : cells_rect c.args.rows c.min-left.result ≡ cells_rect c.args.rows (min c.args.cols (side_of c.args.height)) = ap (λ (x : ℕ). cells_rect c.args.rows x) (omega arith) in
    let a = made_as refl left (record { value = c.in_ok-west.ensures.value; stood = c.in_ok-west.ensures.stood; keeps = c.in_ok-west.ensures.keeps; counts = c.in_ok-west.ensures.counts }) in
    let right : cells_rect c.args.rows (min c.args.cols (side_of c.args.height)) ≡ cells_rect c.args.rows (c.args.cols - side_of c.args.height) = ap (λ (x : ℕ). cells_rect c.args.rows x) (omega arith) in
    both_made (omega arith) a (made_as refl right (made_is {m = 0} (reads_itself _ a.keeps.after) a.value))

pub rects_beside-returns-in_err-east : goal.rects_beside-returns-in_err-east
rects_beside-returns-in_err-east t c =
    let left : cells_rect c.args.rows c.min-left.result ≡ cells_rect c.args.rows (min c.args.cols (side_of c.args.height)) = ap (λ (x : ℕ). cells_rect c.args.rows x) (omega arith) in
    let right : cells_rect c.args.rows (c.args.cols - c.min-left.result) ≡ cells_rect c.args.rows (c.args.cols - side_of c.args.height) = ap (λ (x : ℕ). cells_rect c.args.rows x) (omega arith) in
    let a = made_as refl left (record { value = c.in_ok-west.ensures.value; stood = c.in_ok-west.ensures.stood; keeps = c.in_ok-west.ensures.keeps; counts = c.in_ok-west.ensures.counts }) in
    let b = made_as refl right (record { value = c.in_err-east.ensures.value; stood = c.in_err-east.ensures.stood; keeps = c.in_err-east.ensures.keeps; counts = c.in_err-east.ensures.counts }) in
    second_missed c.from_residual-in_err-east.result c.from_residual-in_err-east.ensures.0 (omega arith) a b

pub rects_beside-returns : goal.rects_beside-returns
rects_beside-returns t c =
    let left : cells_rect c.args.rows c.min-left.result ≡ cells_rect c.args.rows (min c.args.cols (side_of c.args.height)) = ap (λ (x : ℕ). cells_rect c.args.rows x) (omega arith) in
    let right : cells_rect c.args.rows (c.args.cols - c.min-left.result) ≡ cells_rect c.args.rows (c.args.cols - side_of c.args.height) = ap (λ (x : ℕ). cells_rect c.args.rows x) (omega arith) in
    let a = made_as refl left (record { value = c.in_ok-west.ensures.value; stood = c.in_ok-west.ensures.stood; keeps = c.in_ok-west.ensures.keeps; counts = c.in_ok-west.ensures.counts }) in
    both_made (omega arith) a (made_as refl right (record { value = c.in_ok-east.ensures.value; stood = c.in_ok-east.ensures.stood; keeps = c.in_ok-east.ensures.keeps; counts = c.in_ok-east.ensures.counts }))
