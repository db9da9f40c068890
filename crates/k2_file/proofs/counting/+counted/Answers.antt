use Rattle.std.proofs.Common.{rules, ◌≡◌, ◌≤◌, ◌+◌, ◌-◌, ◌∙◌, sym, arith}
use Rattle.std.specs.HashMap.{get}
use Rattle.k2_file.specs.Counts.{same_key}
use Rattle.k2_file.proofs.WriteCounts.{part-full, full_part-stays, later-full, counts-kept, two-counted, four-counted, part-limit, counts-put-later, counts-found}
use Rattle.k2_file.proofs.counting.+counted.Goals as goal

pub counted_below-counted_two-requires : goal.counted_below-counted_two-requires
counted_below-counted_two-requires g t c κs within =
    let w = g.E.Core.worker c.args.engine.now in
    let v = g.E.Core.worker c.quarters_of-nw.new.engine in
    let least = g.E.Core.least in
    let k = c.args.height - 1 in
    let four = c.quarters_of-nw.result in
    let shown = c.quarters_of-nw.ensures.shows in
    let h = c.requires.high in (
      search rules,
      (
        within,
        (
          omega (arith, h),
          (
            part-full v least k _ four.0 shown.nw,
            (
              part-full v least k _ four.1 shown.ne,
              counts-kept w v (get same_key c.args.counts.now) c.quarters_of-nw.ensures.keeps c.requires.known,
            ),
          ),
        ),
      ),
    )

pub counted_below-counted_two-requires-2 : goal.counted_below-counted_two-requires-2
counted_below-counted_two-requires-2 g t c κs within =
    let v = g.E.Core.worker c.quarters_of-nw.new.engine in
    let u = g.E.Core.worker c.counted_two.new.engine in
    let least = g.E.Core.least in
    let k = c.args.height - 1 in
    let four = c.quarters_of-nw.result in
    let shown = c.quarters_of-nw.ensures.shows in
    let kept = c.in_ok-north.ensures.keeps in
    let h = c.requires.high in
    (search rules, (within, (omega (arith, h), (later-full v u least k _ four.2 kept shown.sw, (later-full v u least k _ four.3 kept shown.se, c.in_ok-north.ensures.known)))))

pub counted_two-counted_part-requires : goal.counted_two-counted_part-requires
counted_two-counted_part-requires g t c κs within = (search rules, (within, (c.requires.high, (c.requires.west, c.requires.known))))

pub counted_two-counted_part-requires-2 : goal.counted_two-counted_part-requires-2
counted_two-counted_part-requires-2 g t c κs within =
    let later = full_part-stays (g.E.Core.worker c.args.engine.now) (g.E.Core.worker c.counted_part.new.engine) g.E.Core.least c.args.height c.args.east c.in_ok-first.ensures.keeps c.requires.east in
    (search rules, (within, (c.requires.high, (later, c.in_ok-first.ensures.known))))

pub counted_below-overflow_add-result : goal.counted_below-overflow_add-result
counted_below-overflow_add-result g t c =
    let v = g.E.Core.worker c.quarters_of-nw.new.engine in
    let h = c.requires.high in
    let low : c.args.height - 1 ≤ 24 = omega (arith, h) in
    let a = part-limit v (c.args.height - 1) c.quarters_of-nw.result.0 low in
    let b = part-limit v (c.args.height - 1) c.quarters_of-nw.result.1 low in
    omega (arith, c.in_ok-north.ensures.value, a, b)

pub counted_below-overflow_add-result-2 : goal.counted_below-overflow_add-result-2
counted_below-overflow_add-result-2 g t c =
    let v = g.E.Core.worker c.quarters_of-nw.new.engine in
    let w = g.E.Core.worker c.counted_two.new.engine in
    let h = c.requires.high in
    let low : c.args.height - 1 ≤ 24 = omega (arith, h) in
    let a = part-limit v (c.args.height - 1) c.quarters_of-nw.result.0 low in
    let b = part-limit v (c.args.height - 1) c.quarters_of-nw.result.1 low in
    let d = part-limit w (c.args.height - 1) c.quarters_of-nw.result.2 low in
    let e = part-limit w (c.args.height - 1) c.quarters_of-nw.result.3 low in
    omega (arith, c.in_ok-north.ensures.value, c.in_ok-south.ensures.value, a, b, d, e)

pub counted_below-returns-clause-value : goal.counted_below-returns-clause-value
counted_below-returns-clause-value g t c =
    let low = c.requires.low in
    let up : c.args.height ≡ c.args.height - 1 + 1 = omega (arith, low) in
    four-counted (g.E.Core.worker c.args.engine.now) (g.E.Core.worker c.quarters_of-nw.new.engine) (g.E.Core.worker c.counted_two.new.engine)
    g.E.Core.least c.args.height (c.args.height - 1) c.args.square c.quarters_of-nw.result c.in_ok-north.north c.in_ok-south.south
    up c.requires.full c.quarters_of-nw.ensures.shows c.in_ok-north.ensures.keeps c.in_ok-north.ensures.value c.in_ok-south.ensures.value

pub counted_two-overflow_add-result : goal.counted_two-overflow_add-result
counted_two-overflow_add-result g t c =
    let a = part-limit (g.E.Core.worker c.args.engine.now) c.args.height c.args.west c.requires.high in
    let b = part-limit (g.E.Core.worker c.counted_part.new.engine) c.args.height c.args.east c.requires.high in
    omega (arith, c.in_ok-first.ensures.value, c.in_ok-second.ensures.value, a, b)

pub counted_two-returns-clause-value : goal.counted_two-returns-clause-value
counted_two-returns-clause-value g t c =
    two-counted (g.E.Core.worker c.args.engine.now) (g.E.Core.worker c.counted_part.new.engine) g.E.Core.least c.args.height c.args.west c.args.east c.in_ok-first.first c.in_ok-second.second
    c.in_ok-first.ensures.keeps c.requires.east c.in_ok-first.ensures.value c.in_ok-second.ensures.value

pub counted_square-returns-in-Some-clause-value : goal.counted_square-returns-in-Some-clause-value
counted_square-returns-in-Some-clause-value g t c =
    counts-found (g.E.Core.worker c.args.engine.now) g.E.Core.least c.args.height c.args.square c.in-Tree.quad c.in-Some.found (get same_key c.args.counts.now)
    c.in-Tree.is c.requires.full.square c.requires.known (sym c.get.ensures.value ∙ sym c.copied.ensures ∙ c.in-Some.is)

pub counted_square-returns-clause-known : goal.counted_square-returns-clause-known
counted_square-returns-clause-known g t c =
    counts-put-later (g.E.Core.worker c.args.engine.now) (g.E.Core.worker c.counted_below-2.new.engine) g.E.Core.least c.args.height c.args.square c.in-Tree.quad c.in_ok-sum.sum
    (get same_key c.counted_below-2.new.counts) (get same_key c.insert.new.self)
    c.in-Tree.is c.in_ok-sum.ensures.keeps c.requires.full.square c.in_ok-sum.ensures.value c.in_ok-sum.ensures.known c.in_ok-insert.ensures.updates.0
