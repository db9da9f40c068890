use Rattle.std.proofs.Common.{arith}
use Rattle.rel_model.proofs.QuadLaws.{quad_stays, reads_on}
use Rattle.tree_blocks.proofs.Counting.{over_blocks}
use Rattle.tree_blocks.proofs.dense.+weighed_under.Goals as goal

pub quarters-requires-clause-over : goal.quarters-requires-clause-over
quarters-requires-clause-over t c = over_blocks c.args.q.height (omega arith)

pub weighed_under-second-requires : goal.weighed_under-second-requires
weighed_under-second-requires t c =
    let q = c.quarters.ensures.quarters in
    let e = q.ne_height in
    let d = c.decreases in
    (omega (arith, e, d), (quad_stays 0 c.quarters.new.self c.weighed_under-first.new.nodes c.quarters.result.ne c.weighed_under-first.ensures.reads.keeps q.ne, c.weighed_under-first.ensures.same_places))

pub weighed_under-third-requires : goal.weighed_under-third-requires
weighed_under-third-requires t c =
    let q = c.quarters.ensures.quarters in
    let e = q.sw_height in
    let d = c.decreases in
    let k = reads_on c.quarters.new.self c.weighed_under-first.new.nodes c.weighed_under-second.new.nodes c.weighed_under-first.ensures.reads c.weighed_under-second.ensures.reads in
    (omega (arith, e, d), (quad_stays 0 c.quarters.new.self c.weighed_under-second.new.nodes c.quarters.result.sw k.keeps q.sw, c.weighed_under-second.ensures.same_places))

pub weighed_under-requires : goal.weighed_under-requires
weighed_under-requires t c =
    let q = c.quarters.ensures.quarters in
    let e = q.se_height in
    let d = c.decreases in
    let j = reads_on c.quarters.new.self c.weighed_under-first.new.nodes c.weighed_under-second.new.nodes c.weighed_under-first.ensures.reads c.weighed_under-second.ensures.reads in
    let k = reads_on c.quarters.new.self c.weighed_under-second.new.nodes c.weighed_under-third.new.nodes j c.weighed_under-third.ensures.reads in
    (omega (arith, e, d), (quad_stays 0 c.quarters.new.self c.weighed_under-third.new.nodes c.quarters.result.se k.keeps q.se, c.weighed_under-third.ensures.same_places))
