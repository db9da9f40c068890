use Rattle.std.proofs.Common.{rules, ◌≡◌, ◌∙◌, ◌+◌, ◌-◌, sym, refl, arith}
use Rattle.k2_file.proofs.WriteCounts.{part-full, full_part-stays, later-full}
use Rattle.k2_write.proofs.Visited.{cell_visited, quad_noted, leaf_noted, quad_visited, leaf_visited, two_visited, quarters_visited}
use Rattle.k2_write.proofs.walk.+visit.Goals as goal

pub visit_quarters-visit_two-requires : goal.visit_quarters-visit_two-requires
visit_quarters-visit_two-requires g t c κs within =
    let v = g.E.Core.worker c.quarters_of-north_west.new.engine in
    let least = g.E.Core.least in
    let k = c.args.height - 1 in
    let four = c.quarters_of-north_west.result in
    let shown = c.quarters_of-north_west.ensures.shows in
    let h = c.requires.high in
    (search rules, (within, (omega (arith, h), (part-full v least k _ four.0 shown.nw, part-full v least k _ four.1 shown.ne))))

pub visit_quarters-visit_two-requires-2 : goal.visit_quarters-visit_two-requires-2
visit_quarters-visit_two-requires-2 g t c κs within =
    let v = g.E.Core.worker c.quarters_of-north_west.new.engine in
    let u = g.E.Core.worker c.visit_two.new.engine in
    let least = g.E.Core.least in
    let k = c.args.height - 1 in
    let four = c.quarters_of-north_west.result in
    let shown = c.quarters_of-north_west.ensures.shows in
    let kept = c.in_ok-nw.ensures.keeps in
    let h = c.requires.high in
    (search rules, (within, (omega (arith, h), (later-full v u least k _ four.2 kept shown.sw, later-full v u least k _ four.3 kept shown.se))))

pub visit_two-visit_part-requires : goal.visit_two-visit_part-requires
visit_two-visit_part-requires g t c κs within = (search rules, (within, (c.requires.high, c.requires.west)))

pub visit_two-visit_part-requires-2 : goal.visit_two-visit_part-requires-2
visit_two-visit_part-requires-2 g t c κs within =
    let later = full_part-stays (g.E.Core.worker c.args.engine.now) (g.E.Core.worker c.visit_part.new.engine) g.E.Core.least c.args.height c.args.east c.in_ok-first.ensures.keeps c.requires.east in
    (search rules, (within, (c.requires.high, later)))

pub visit_two-returns-clause-value : goal.visit_two-returns-clause-value
visit_two-returns-clause-value g t c =
    two_visited (g.E.Core.worker c.args.engine.now) (g.E.Core.worker c.visit_part.new.engine) (g.E.Core.worker c.visit_part-2.new.engine) g.E.Core.least c.args.height c.args.west c.args.east
    c.args.visits.now c.visit_part.new.visits c.visit_part-2.new.visits c.in_ok-first.first c.in_ok-second.second
    c.requires.high c.in_ok-first.ensures.keeps c.requires.east c.in_ok-first.ensures.value c.in_ok-second.ensures.value

pub visit_quad-returns-in-Some-clause-value : goal.visit_quad-returns-in-Some-clause-value
visit_quad-returns-in-Some-clause-value g t c =
    quad_noted (g.E.Core.worker c.args.engine.now) g.E.Core.least c.args.height c.args.quad c.in-Some.found c.args.visits.now
    c.requires.full.square (sym c.get.ensures.value ∙ sym c.copied.ensures ∙ c.in-Some.is)

pub visit_quad-returns-clause-value : goal.visit_quad-returns-clause-value
visit_quad-returns-clause-value g t c =
    quad_visited (g.E.Core.worker c.args.engine.now) (g.E.Core.worker c.visit_quarters.new.engine) g.E.Core.least c.args.height c.args.quad c.in_ok-number.number
    c.args.visits.now c.visit_quarters.new.visits _
    c.requires.high c.in_ok-number.ensures.keeps c.requires.full.square c.in_ok-number.ensures.value refl refl c.in_ok-insert.ensures.updates.0

pub visit_window-returns-in-Some-clause-value : goal.visit_window-returns-in-Some-clause-value
visit_window-returns-in-Some-clause-value g t c =
    leaf_noted (g.E.Core.worker c.args.engine.now) g.E.Core.least c.args.height c.args.window c.in-Some.found c.args.visits.now
    (c.if-not-is_leaf.ensures refl) (sym c.get.ensures.value ∙ sym c.copied.ensures ∙ c.in-Some.is)

pub visit_window-returns-clause-value : goal.visit_window-returns-clause-value
visit_window-returns-clause-value g t c =
    leaf_visited (g.E.Core.worker c.args.engine.now) (g.E.Core.worker c.visit_quarters-2.new.engine) g.E.Core.least c.args.height c.args.window c.in_ok-number.number
    c.args.visits.now c.visit_quarters-2.new.visits _
    c.requires.high c.in_ok-number.ensures.keeps (c.if-not-is_leaf.ensures refl) c.requires.full.square c.in_ok-number.ensures.value refl refl c.in_ok-insert.ensures.updates.0

pub visit_square-returns-then-height-eq0-clause-value : goal.visit_square-returns-then-height-eq0-clause-value
visit_square-returns-then-height-eq0-clause-value g t c =
    cell_visited (g.E.Core.worker c.args.engine.now) g.E.Core.least c.args.height c.args.square c.args.visits.now c.if-height-eq0.true c.requires.full

pub visit_quarters-returns-clause-value : goal.visit_quarters-returns-clause-value
visit_quarters-returns-clause-value g t c =
    let low = c.requires.low in
    let up : c.args.height ≡ c.args.height - 1 + 1 = omega (arith, low) in
    let n = c.in_ok-number.ensures.number in
    quarters_visited (g.E.Core.worker c.args.engine.now) (g.E.Core.worker c.quarters_of-north_west.new.engine) (g.E.Core.worker c.visit_two.new.engine) (g.E.Core.worker c.visit_two-2.new.engine)
    g.E.Core.least c.args.height (c.args.height - 1) c.args.square c.quarters_of-north_west.result
    c.args.visits.now c.visit_two.new.visits c.visit_two-2.new.visits _ _ _ _ _ n.0 c.in_ok-number.number
    up c.requires.high c.requires.full c.quarters_of-north_west.ensures.shows c.quarters_of-north_west.ensures.keeps c.in_ok-nw.ensures.keeps c.in_ok-sw.ensures.keeps
    c.in_ok-nw.ensures.value c.in_ok-sw.ensures.value c.in_ok-number.ensures.keys refl refl n.1 n.2
