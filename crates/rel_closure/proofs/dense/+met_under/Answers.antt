use Rattle.std.proofs.Common.{◌<◌, arith}
use Rattle.rel_steps.proofs.Given.{kept_quad}
use Rattle.rel_steps.proofs.Reading.{reads, reads_on}
use Rattle.rel_closure.proofs.dense.+met_under.Goals as goal

pub met_under-second-requires : goal.met_under-second-requires
met_under-second-requires g t c κs within =
    let q = c.quarters.ensures.quarters in
    let e = q.ne_height in
    let d = c.decreases in
    let falls : c.quarters.result.ne.height < t = omega (arith, e, d) in
    (falls, (within, (kept_quad (g.Q.Core.worker c.quarters.new.self) (g.Q.Core.worker c.met_under-first.new.quads) c.quarters.result.ne c.met_under-first.ensures.reads.keeps q.ne, c.met_under-first.ensures.same_places)))

pub met_under-third-requires : goal.met_under-third-requires
met_under-third-requires g t c κs within =
    let q = c.quarters.ensures.quarters in
    let e = q.sw_height in
    let d = c.decreases in
    let falls : c.quarters.result.sw.height < t = omega (arith, e, d) in
    (falls, (within, (kept_quad (g.Q.Core.worker c.met_under-first.new.quads) (g.Q.Core.worker c.met_under-second.new.quads) c.quarters.result.sw c.met_under-second.ensures.reads.keeps (kept_quad (g.Q.Core.worker c.quarters.new.self) (g.Q.Core.worker c.met_under-first.new.quads) c.quarters.result.sw c.met_under-first.ensures.reads.keeps q.sw), c.met_under-second.ensures.same_places)))

pub met_under-requires : goal.met_under-requires
met_under-requires g t c κs within =
    let q = c.quarters.ensures.quarters in
    let e = q.se_height in
    let d = c.decreases in
    let falls : c.quarters.result.se.height < t = omega (arith, e, d) in
    (falls, (within, (kept_quad (g.Q.Core.worker c.met_under-second.new.quads) (g.Q.Core.worker c.met_under-third.new.quads) c.quarters.result.se c.met_under-third.ensures.reads.keeps (kept_quad (g.Q.Core.worker c.met_under-first.new.quads) (g.Q.Core.worker c.met_under-second.new.quads) c.quarters.result.se c.met_under-second.ensures.reads.keeps (kept_quad (g.Q.Core.worker c.quarters.new.self) (g.Q.Core.worker c.met_under-first.new.quads) c.quarters.result.se c.met_under-first.ensures.reads.keeps q.se)), c.met_under-third.ensures.same_places)))

pub returns-clause-reads : goal.returns-clause-reads
returns-clause-reads g t c =
    let q = reads c.quarters.ensures.keeps c.quarters.ensures.room c.quarters.ensures.misses in
    reads_on q (reads_on c.met_under-first.ensures.reads (reads_on c.met_under-second.ensures.reads (reads_on c.met_under-third.ensures.reads c.met_under.ensures.reads)))
