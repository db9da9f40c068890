use Rattle.std.proofs.Common.{◌<◌, ◌≤◌, arith}
use Rattle.k2_parts.proofs.Visiting.{the_quad, quarters_below, visits-out, visits-listed, visits-whole}
use Rattle.k2_parts.specs.Told.{quadrants_told}
use Rattle.k2_parts.proofs.visits.+visit.Goals as goal
use Rattle.k2_parts.proofs.visits.+visit.Goals.{then-noted-via-then-noted, then-noted-via-else-noted+then-number-noted}

pub returns-then-noted-clause-visits : goal.returns-then-noted-clause-visits
returns-then-noted-clause-visits t c = elim c.then-noted.branch [
  | then-noted-via-then-noted w ↦ visits-out (quadrants_told c.args.quads.now) c.requires.sound c.args.number c.args.noted w.if-noted.true
  | then-noted-via-else-noted+then-number-noted w ↦
      visits-listed (quadrants_told c.args.quads.now) c.requires.sound c.args.number c.args.noted w.if-noted.false w.if-number-noted.true c.requires.low
]

pub visit-noted-requires : goal.visit-noted-requires
visit-noted-requires t c =
    let two : 2 ≤ c.args.number = omega (arith, c.requires.low, c.if-number-noted.false) in
    let below = quarters_below c.args.quads.now c.requires.sound c.args.number two c.requires.within in
    let quad = the_quad c.args.quads.now c.requires.sound c.args.number two c.requires.within in
    let less : quad.nw < c.args.number = below.nw in
    let high = c.requires.within in
    let d = c.decreases in
    let falls : quad.nw < t = omega (arith, less, d) in
    (falls, (c.requires.sound, (omega (arith, less, high), c.requires.low)))

pub visit-noted-requires-2 : goal.visit-noted-requires-2
visit-noted-requires-2 t c =
    let two : 2 ≤ c.args.number = omega (arith, c.requires.low, c.if-number-noted.false) in
    let below = quarters_below c.args.quads.now c.requires.sound c.args.number two c.requires.within in
    let quad = the_quad c.args.quads.now c.requires.sound c.args.number two c.requires.within in
    let less : quad.ne < c.args.number = below.ne in
    let high = c.requires.within in
    let d = c.decreases in
    let falls : quad.ne < t = omega (arith, less, d) in
    (falls, (c.requires.sound, (omega (arith, less, high), omega (arith, c.requires.low, c.visit-noted.ensures.low))))

pub visit-noted-requires-3 : goal.visit-noted-requires-3
visit-noted-requires-3 t c =
    let two : 2 ≤ c.args.number = omega (arith, c.requires.low, c.if-number-noted.false) in
    let below = quarters_below c.args.quads.now c.requires.sound c.args.number two c.requires.within in
    let quad = the_quad c.args.quads.now c.requires.sound c.args.number two c.requires.within in
    let less : quad.sw < c.args.number = below.sw in
    let high = c.requires.within in
    let d = c.decreases in
    let falls : quad.sw < t = omega (arith, less, d) in
    (falls, (c.requires.sound, (omega (arith, less, high), omega (arith, c.requires.low, c.visit-noted.ensures.low, c.visit-noted-2.ensures.low))))

pub visit-noted-requires-4 : goal.visit-noted-requires-4
visit-noted-requires-4 t c =
    let two : 2 ≤ c.args.number = omega (arith, c.requires.low, c.if-number-noted.false) in
    let below = quarters_below c.args.quads.now c.requires.sound c.args.number two c.requires.within in
    let quad = the_quad c.args.quads.now c.requires.sound c.args.number two c.requires.within in
    let less : quad.se < c.args.number = below.se in
    let high = c.requires.within in
    let d = c.decreases in
    let falls : quad.se < t = omega (arith, less, d) in
    (falls, (c.requires.sound, (omega (arith, less, high), omega (arith, c.requires.low, c.visit-noted.ensures.low, c.visit-noted-2.ensures.low, c.visit-noted-3.ensures.low))))

pub list_number-requires-clause-high : goal.list_number-requires-clause-high
list_number-requires-clause-high t c =
    let two : 2 ≤ c.args.number = omega (arith, c.requires.low, c.if-number-noted.false) in
    let below = quarters_below c.args.quads.now c.requires.sound c.args.number two c.requires.within in
    let nw = below.nw in
    let ne = below.ne in
    let sw = below.sw in
    let se = below.se in
    omega (arith, c.if-number-noted.false, nw, ne, sw, se, c.visit-noted.ensures.high, c.visit-noted-2.ensures.high, c.visit-noted-3.ensures.high, c.visit-noted-4.ensures.high)

pub returns-clause-visits : goal.returns-clause-visits
returns-clause-visits t c =
    let two : 2 ≤ c.args.number = omega (arith, c.requires.low, c.if-number-noted.false) in
    visits-whole c.args.quads.now c.requires.sound c.args.number two c.requires.within
    c.args.noted c.visit-noted.result c.visit-noted-2.result c.visit-noted-3.result c.visit-noted-4.result c.list_number.result
    c.visit-noted.ensures.visits c.visit-noted-2.ensures.visits c.visit-noted-3.ensures.visits c.visit-noted-4.ensures.visits c.list_number.ensures.lists
