use Rattle.std.proofs.Common.{rules, ◌≡◌, ◌+◌, ◌-◌, ◌^◌, ◌∙◌, [], ℕ, Some, refl, sym, ap, arith}
use Rattle.rel_model.specs.Choice.{count_below}
use Rattle.rel_model.specs.Worker.{quad_set}
use Rattle.rel_model.proofs.Workers.{keeps_itself, keeps_trans}
use Rattle.rel_steps.proofs.Causes.{done_cause}
use Rattle.rel_steps.proofs.Making.{Underway, read, goes_on, failed, stops, finished, four_stand}
use Rattle.rel_domains.specs.Ranks.{first_column}
use Rattle.rel_domains.proofs.Places.{side_step}
use Rattle.rel_domains.proofs.Halves.{AreHalves, halves_first, halves_later, ranks_given, ranks_again, one_quad}
use Rattle.rel_domains.proofs.Ranking.{ranked-none}
use Rattle.rel_domains.proofs.Steps.{room_step, room_some}
use Rattle.rel_domains.proofs.vector.+ranks.Given.{Over}
use Rattle.rel_domains.proofs.vector.+ranks.Goals.{After-elements-above}
use Rattle.rel_domains.proofs.vector.+ranks.Goals as goal

pub returns-then-passes_by : goal.returns-then-passes_by
returns-then-passes_by g t c =
    let laws = g.met.Q.Quads in
    let v = c.args.vector in
    let o = c.args.q.now in
    let h = 2 ^ (g.Q.Core.least + c.args.depth) in
    let e : 2 ^ v.height ≡ h = ap (λ n. 2 ^ n) c.requires.height in
    let f = first_column (quad_set (g.Q.Core.worker o) v) in
    let n = c.requires.many ∙ ap (λ k. count_below k f) e in
    let z = ranked-none h c.args.many c.args.row c.args.before f n (λ i k a b. c.if-passes_by.ensures refl i k (omega (arith, a, c.side_of.ensures, e)) b) in
    record {
      value = record { means = laws.none o v.height (laws.low_height o v c.requires.stands) (laws.high_height o v c.requires.stands) ∙ ap Some (sym z); same_height = c.requires.height };
      keeps = keeps_itself _;
      room = omega arith;
      cause = done_cause _ _ _ _ refl;
    }

-- ---- both halves
known : (g : Over) (t : ℕ) (c : After-elements-above g t) → Underway 0 (g.Q.Core.least + (c.args.depth - 1)) [] (g.Q.Core.worker c.args.q.now) (g.Q.Core.worker c.elements-above.new.q)
known g t c = read (keeps_trans _ _ _ c.quarters.ensures.keeps c.elements-above.ensures.keeps) (omega (arith, c.quarters.ensures.room, c.elements-above.ensures.room)) (c.elements-above.ensures.misses ∙ c.quarters.ensures.misses)

halves : (g : Over) (t : ℕ) (c : After-elements-above g t) → let w = g.Q.Core.worker c.quarters.new.self in let four = c.quarters.result in AreHalves (g.Q.Core.worker c.elements-above.new.q) (g.Q.Core.least + (c.args.depth - 1)) c.args.many c.elements-above.result four.nw four.sw (quad_set w four.nw) (quad_set w four.sw)
halves g t c = halves_first _ _ _ g.Q.Core.least c.args.depth c.args.many c.elements-above.result c.args.vector c.quarters.result c.if-depth-eq0.false c.requires.height c.quarters.ensures.quarters c.requires.many c.elements-above.ensures.count c.elements-above.ensures.keeps

pub ranks-requires : goal.ranks-requires
ranks-requires g t c κs within =
    let at = (goal.at.ranks-requires g t c).After-elements-above in
    let p = halves g t at in
    let s = side_step g.Q.Core.least c.args.depth c.if-depth-eq0.false in
    (search rules, (within, (p.upper_stands, (p.upper_height, (p.upper_many, (omega (arith, s, c.requires.row), (let f = p.fits in omega (arith, f, c.requires.before))))))))

pub overflow_sub-many : goal.overflow_sub-many
overflow_sub-many g t c = let f = (halves g t (goal.at.overflow_sub-many g t c).After-elements-above).fits in omega (arith, f)

pub ranks-requires-2 : goal.ranks-requires-2
ranks-requires-2 g t c κs within =
    let at = (goal.at.ranks-requires-2 g t c).After-elements-above in
    let p = halves_later _ _ _ _ _ _ _ _ _ c.in_ok-nw.ensures.keeps (halves g t at) in
    let s = side_step g.Q.Core.least c.args.depth c.if-depth-eq0.false in
    (search rules, (within, (p.lower_stands, (p.lower_height, (p.lower_many, (omega (arith, s, c.requires.row), (let f = p.fits in omega (arith, f, c.requires.before))))))))

pub overflow_sub-many-2 : goal.overflow_sub-many-2
overflow_sub-many-2 g t c = let f = (halves g t (goal.at.overflow_sub-many-2 g t c).After-elements-above).fits in omega (arith, f)

pub ranks-requires-3 : goal.ranks-requires-3
ranks-requires-3 g t c κs within =
    let at = (goal.at.ranks-requires-3 g t c).After-elements-above in
    let p = halves_later _ _ _ _ _ _ _ _ _ c.in_ok-ne.ensures.keeps (halves_later _ _ _ _ _ _ _ _ _ c.in_ok-nw.ensures.keeps (halves g t at)) in
    let s = side_step g.Q.Core.least c.args.depth c.if-depth-eq0.false in
    let half : c.side_of-half.result ≡ 2 ^ (g.Q.Core.least + (c.args.depth - 1)) = c.side_of-half.ensures ∙ ap (λ k. 2 ^ k) (omega (arith, c.requires.height, c.if-depth-eq0.false)) in
    (search rules, (within, (p.upper_stands, (p.upper_height, (p.upper_many, (omega (arith, s, half, c.requires.row), (let f = p.fits in omega (arith, f, c.requires.before))))))))

pub ranks-requires-4 : goal.ranks-requires-4
ranks-requires-4 g t c κs within =
    let at = (goal.at.ranks-requires-4 g t c).After-elements-above in
    let p = halves_later _ _ _ _ _ _ _ _ _ c.in_ok-sw.ensures.keeps (halves_later _ _ _ _ _ _ _ _ _ c.in_ok-ne.ensures.keeps (halves_later _ _ _ _ _ _ _ _ _ c.in_ok-nw.ensures.keeps (halves g t at))) in
    let s = side_step g.Q.Core.least c.args.depth c.if-depth-eq0.false in
    let half : c.side_of-half.result ≡ 2 ^ (g.Q.Core.least + (c.args.depth - 1)) = c.side_of-half.ensures ∙ ap (λ k. 2 ^ k) (omega (arith, c.requires.height, c.if-depth-eq0.false)) in
    (search rules, (within, (p.lower_stands, (p.lower_height, (p.lower_many, (omega (arith, s, half, c.requires.row), (let f = p.fits in omega (arith, f, c.requires.before))))))))

-- ---- a leaf
pub returns-in_err-leaf : goal.returns-in_err-leaf
returns-in_err-leaf g t c =
    let r = room_some c.args.depth in
    let b = c.bits-bits.ensures in
    let e = c.in_err-leaf.ensures in
    stops c.from_residual.result c.from_residual.ensures.1 (omega (arith, r)) (read {h = 0} b.keeps b.room b.misses) (failed 1 e.keeps e.room e.cause)

-- ---- a square is missed
pub returns-in_err-nw : goal.returns-in_err-nw
returns-in_err-nw g t c =
    let at = (goal.at.returns-in_err-nw g t c).After-elements-above in
    let r = room_step c.args.depth c.if-depth-eq0.false in
    stops c.from_residual-in_err-nw.result c.from_residual-in_err-nw.ensures.1 (omega (arith, r)) (known g t at) c.in_err-nw.ensures

pub returns-in_err-ne : goal.returns-in_err-ne
returns-in_err-ne g t c =
    let at = (goal.at.returns-in_err-ne g t c).After-elements-above in
    let r = room_step c.args.depth c.if-depth-eq0.false in
    let u1 = goes_on (known g t at) c.in_ok-nw.ensures in
    stops c.from_residual-in_err-ne.result c.from_residual-in_err-ne.ensures.1 (omega (arith, r)) u1 c.in_err-ne.ensures

pub returns-in_err-sw : goal.returns-in_err-sw
returns-in_err-sw g t c =
    let at = (goal.at.returns-in_err-sw g t c).After-elements-above in
    let r = room_step c.args.depth c.if-depth-eq0.false in
    let u1 = goes_on (known g t at) c.in_ok-nw.ensures in
    let u2 = goes_on u1 c.in_ok-ne.ensures in
    stops c.from_residual-in_err-sw.result c.from_residual-in_err-sw.ensures.1 (omega (arith, r)) u2 c.in_err-sw.ensures

pub returns-in_err-full : goal.returns-in_err-full
returns-in_err-full g t c =
    let at = (goal.at.returns-in_err-full g t c).After-elements-above in
    let r = room_step c.args.depth c.if-depth-eq0.false in
    let u1 = goes_on (known g t at) c.in_ok-nw.ensures in
    let u2 = goes_on u1 c.in_ok-ne.ensures in
    let u3 = goes_on u2 c.in_ok-sw.ensures in
    let e = c.in_err-full.ensures in
    stops c.from_residual-in_err-full.result c.from_residual-in_err-full.ensures.1 (omega (arith, r)) u3 (failed 3 e.keeps e.room e.cause)

pub returns-in_err-se : goal.returns-in_err-se
returns-in_err-se g t c =
    let at = (goal.at.returns-in_err-se g t c).After-elements-above in
    let r = room_step c.args.depth c.if-depth-eq0.false in
    let u1 = goes_on (known g t at) c.in_ok-nw.ensures in
    let u2 = goes_on u1 c.in_ok-ne.ensures in
    let u3 = goes_on u2 c.in_ok-sw.ensures in
    stops c.from_residual-in_err-se.result c.from_residual-in_err-se.ensures.1 (omega (arith, r)) u3 c.in_err-se.ensures

pub returns-in_err-corner : goal.returns-in_err-corner
returns-in_err-corner g t c =
    let at = (goal.at.returns-in_err-corner g t c).After-elements-above in
    let r = room_step c.args.depth c.if-depth-eq0.false in
    let u1 = goes_on (known g t at) c.in_ok-nw.ensures in
    let u2 = goes_on u1 c.in_ok-ne.ensures in
    let u3 = goes_on u2 c.in_ok-sw.ensures in
    let u4 = goes_on u3 c.in_ok-se.ensures in
    let e = c.in_err-corner.ensures in
    stops c.from_residual-in_err-corner.result c.from_residual-in_err-corner.ensures.1 (omega (arith, r)) u4 (failed 3 e.keeps e.room e.cause)

-- ---- the corner
pub returns-then-above-half : goal.returns-then-above-half
returns-then-above-half g t c =
    let at = (goal.at.returns-then-above-half g t c).After-elements-above in
    let d = g.Q.Core.least + (c.args.depth - 1) in
    let w1 = g.Q.Core.worker c.quarters.new.self in
    let four = c.quarters.result in
    let p2 = halves g t at in
    let p5 = halves_later _ _ _ _ _ _ _ _ _ c.in_ok-sw.ensures.keeps (halves_later _ _ _ _ _ _ _ _ _ c.in_ok-ne.ensures.keeps (halves_later _ _ _ _ _ _ _ _ _ c.in_ok-nw.ensures.keeps p2)) in
    let one = one_quad four.sw four.nw (let a = p2.upper_height in let b = p2.lower_height in omega (arith, a, b)) c.if-lower-upper.true in
    let same = ap first_column (p2.upper_is ∙ ap (quad_set w1) (sym one) ∙ sym p5.lower_is) in
    let se = ranks_again _ _ _ d c.args.row c.args.before c.side_of-half.result c.elements-above.result _ _ c.in_ok-nw.nw c.if-above-half.true same c.in_ok-nw.ensures.value c.in_ok-ne.ensures.keeps c.in_ok-sw.ensures.keeps in
    let given = ranks_given _ _ _ _ _ _ _ _ g.Q.Core.least c.args.depth c.args.many c.args.row c.args.before c.side_of-half.result c.elements-above.result c.args.vector four _ _ _ _ _ c.if-depth-eq0.false c.requires.height
    c.side_of-half.ensures c.quarters.ensures.quarters c.elements-above.ensures.count p2 c.in_ok-nw.ensures.keeps c.in_ok-nw.ensures.value c.in_ok-ne.ensures.keeps c.in_ok-ne.ensures.value c.in_ok-sw.ensures.keeps c.in_ok-sw.ensures.value
    (keeps_itself _) se c.in_ok-full.ensures.value in
    let r = room_step c.args.depth c.if-depth-eq0.false in
    let u1 = goes_on (known g t at) c.in_ok-nw.ensures in
    let u2 = goes_on u1 c.in_ok-ne.ensures in
    let u3 = goes_on u2 c.in_ok-sw.ensures in
    let e = c.in_ok-full.ensures in
    finished 3 (omega (arith, r)) u3 given e.keeps e.room e.cause

pub returns : goal.returns
returns g t c =
    let at = (goal.at.returns g t c).After-elements-above in
    let given = ranks_given _ _ _ _ _ _ _ _ g.Q.Core.least c.args.depth c.args.many c.args.row c.args.before c.side_of-half.result c.elements-above.result c.args.vector c.quarters.result _ _ _ _ _ c.if-depth-eq0.false c.requires.height
    c.side_of-half.ensures c.quarters.ensures.quarters c.elements-above.ensures.count (halves g t at) c.in_ok-nw.ensures.keeps c.in_ok-nw.ensures.value c.in_ok-ne.ensures.keeps c.in_ok-ne.ensures.value c.in_ok-sw.ensures.keeps c.in_ok-sw.ensures.value
    c.in_ok-se.ensures.keeps c.in_ok-se.ensures.value c.in_ok-corner.ensures.value in
    let r = room_step c.args.depth c.if-depth-eq0.false in
    let u1 = goes_on (known g t at) c.in_ok-nw.ensures in
    let u2 = goes_on u1 c.in_ok-ne.ensures in
    let u3 = goes_on u2 c.in_ok-sw.ensures in
    let u4 = goes_on u3 c.in_ok-se.ensures in
    let e = c.in_ok-corner.ensures in
    finished 3 (omega (arith, r)) u4 given e.keeps e.room e.cause

pub corner-requires : goal.corner-requires
corner-requires g t c =
    let at = (goal.at.corner-requires g t c).After-elements-above in
    let u1 = goes_on (known g t at) c.in_ok-nw.ensures in
    let u2 = goes_on u1 c.in_ok-ne.ensures in
    let u3 = goes_on u2 c.in_ok-sw.ensures in
    let a = u3.are in
    let e = c.in_ok-nw.ensures.value.same_height in
    let h = g.met.Q.Quads.high_height c.args.q.now c.args.vector c.requires.stands in
    let f = four_stand a.1.1.0 a.1.0 a.0 a.1.1.0 in
    record { nw_stands = f.nw_stands; ne_stands = f.ne_stands; sw_stands = f.sw_stands; se_stands = f.se_stands; ne_height = f.ne_height; sw_height = f.sw_height; se_height = f.se_height; below = omega (arith, h, e, c.requires.height, c.if-depth-eq0.false) }

pub corner-requires-2 : goal.corner-requires-2
corner-requires-2 g t c =
    let at = (goal.at.corner-requires-2 g t c).After-elements-above in
    let u1 = goes_on (known g t at) c.in_ok-nw.ensures in
    let u2 = goes_on u1 c.in_ok-ne.ensures in
    let u3 = goes_on u2 c.in_ok-sw.ensures in
    let u4 = goes_on u3 c.in_ok-se.ensures in
    let a = u4.are in
    let e = c.in_ok-nw.ensures.value.same_height in
    let h = g.met.Q.Quads.high_height c.args.q.now c.args.vector c.requires.stands in
    let f = four_stand a.1.1.1.0 a.1.1.0 a.1.0 a.0 in
    record { nw_stands = f.nw_stands; ne_stands = f.ne_stands; sw_stands = f.sw_stands; se_stands = f.se_stands; ne_height = f.ne_height; sw_height = f.sw_height; se_height = f.se_height; below = omega (arith, h, e, c.requires.height, c.if-depth-eq0.false) }
