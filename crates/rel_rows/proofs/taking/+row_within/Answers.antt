use Rattle.std.proofs.Common.{sym, arith}
use Rattle.rel_model.specs.Trees.{top_height}
use Rattle.rel_rows.proofs.Steps.{makes_high}
use Rattle.rel_rows.proofs.Parts.{north_part, south_part, part_made}
use Rattle.rel_rows.proofs.Roots.{line_height}
use Rattle.rel_rows.proofs.taking.+row_within.Goals as goal

pub side_of-half-requires : goal.side_of-half-requires
unfolding top_height
side_of-half-requires g t c = let h = g.met.Q.Quads.high_height c.args.q.now c.args.quad c.requires.stands in omega (arith, h)

-- ---- the least quad that is as wide
pub returns-then-quad-bottom : goal.returns-then-quad-bottom
returns-then-quad-bottom g t c =
    let a = c.args in
    let low = g.met.Q.Quads.low_height a.q.now a.quad c.requires.stands in
    makes_high (sym (line_height g.Q.Core.least a.cols a.quad.height c.requires.limit low c.requires.fits (λ l. absurd (omega (arith, l, c.if-quad-bottom.true, c.bottom.ensures))))) c.row_in_quad.ensures

pub returns-then-cols-half : goal.returns-then-cols-half
returns-then-cols-half g t c =
    let a = c.args in
    let low = g.met.Q.Quads.low_height a.q.now a.quad c.requires.stands in
    makes_high (sym (line_height g.Q.Core.least a.cols a.quad.height c.requires.limit low c.requires.fits (λ l. omega (arith, c.if-cols-half.true, c.side_of-half.ensures)))) c.row_in_quad-then-cols-half.ensures

-- ---- a quarter
pub row_within-requires : goal.row_within-requires
row_within-requires g t c κs within =
    let q = c.quarters.ensures.quarters in
    let p = north_part _ _ _ _ _ c.args.cols _ _ q c.side_of-half.ensures (omega (arith, c.if-cols-half.false)) c.requires.narrow (g.met.Q.Quads.square c.quarters.new.self c.quarters.result.nw q.nw) c.if-i-half.true in
    let over = p.over in
    (omega (arith, over), (within, (q.nw, (c.requires.limit, (p.fits, (p.narrow, p.within))))))

pub returns-then-i-half : goal.returns-then-i-half
returns-then-i-half g t c =
    let e = c.quarters.ensures in
    let q = e.quarters in
    let p = north_part _ _ _ _ _ c.args.cols _ _ q c.side_of-half.ensures (omega (arith, c.if-cols-half.false)) c.requires.narrow (g.met.Q.Quads.square c.quarters.new.self c.quarters.result.nw q.nw) c.if-i-half.true in
    part_made p (g.met.Q.Quads.low_height c.quarters.new.self c.quarters.result.nw q.nw) e.keeps e.room e.misses c.row_within.ensures

pub row_within-requires-2 : goal.row_within-requires-2
row_within-requires-2 g t c κs within =
    let q = c.quarters.ensures.quarters in
    let p = south_part _ _ _ _ _ c.args.cols _ _ q c.side_of-half.ensures (omega (arith, c.if-cols-half.false)) c.requires.narrow (g.met.Q.Quads.square c.quarters.new.self c.quarters.result.sw q.sw) (omega (arith, c.if-i-half.false)) c.requires.within in
    let over = p.over in
    (omega (arith, over), (within, (q.sw, (c.requires.limit, (p.fits, (p.narrow, p.within))))))

pub returns : goal.returns
returns g t c =
    let e = c.quarters.ensures in
    let q = e.quarters in
    let p = south_part _ _ _ _ _ c.args.cols _ _ q c.side_of-half.ensures (omega (arith, c.if-cols-half.false)) c.requires.narrow (g.met.Q.Quads.square c.quarters.new.self c.quarters.result.sw q.sw) (omega (arith, c.if-i-half.false)) c.requires.within in
    part_made p (g.met.Q.Quads.low_height c.quarters.new.self c.quarters.result.sw q.sw) e.keeps e.room e.misses c.row_within-2.ensures
