use Rattle.std.proofs.Common.{◌≤◌, ◌+◌, ◌∙◌, arith}
use Rattle.rel_compose.proofs.Reading.{two_reads, three_reads, five_reads, stays}
use Rattle.rel_compose.proofs.distinct.+distinct_under.Goals as goal

pub distinct_under-first-requires : goal.distinct_under-first-requires
distinct_under-first-requires t c =
    let q = c.quarters.ensures.quarters in
    let e = q.nw_height in
    let d = c.decreases in
    let n = c.is_new.ensures.same in
    let l = c.requires.some in
    (omega (arith, e, d), (q.nw, omega (arith, n, l)))

pub distinct_under-second-requires : goal.distinct_under-second-requires
distinct_under-second-requires t c =
    let q = c.quarters.ensures.quarters in
    let e = q.ne_height in
    let d = c.decreases in
    let n = c.distinct_under-first.ensures.same ∙ c.is_new.ensures.same in
    let l = c.requires.some in
    (omega (arith, e, d), (stays c.distinct_under-first.ensures.reads q.ne, omega (arith, n, l)))

pub distinct_under-third-requires : goal.distinct_under-third-requires
distinct_under-third-requires t c =
    let q = c.quarters.ensures.quarters in
    let e = q.sw_height in
    let d = c.decreases in
    let n = c.distinct_under-second.ensures.same ∙ c.distinct_under-first.ensures.same ∙ c.is_new.ensures.same in
    let l = c.requires.some in
    (omega (arith, e, d), (stays (two_reads c.distinct_under-first.ensures.reads c.distinct_under-second.ensures.reads) q.sw, omega (arith, n, l)))

pub distinct_under-requires : goal.distinct_under-requires
distinct_under-requires t c =
    let q = c.quarters.ensures.quarters in
    let e = q.se_height in
    let d = c.decreases in
    let n = c.distinct_under-third.ensures.same ∙ c.distinct_under-second.ensures.same ∙ c.distinct_under-first.ensures.same ∙ c.is_new.ensures.same in
    let l = c.requires.some in
    let r = three_reads c.distinct_under-first.ensures.reads c.distinct_under-second.ensures.reads c.distinct_under-third.ensures.reads in
    (omega (arith, e, d), (stays r q.se, omega (arith, n, l)))

pub returns-clause-same : goal.returns-clause-same
returns-clause-same t c = c.distinct_under.ensures.same ∙ c.distinct_under-third.ensures.same ∙ c.distinct_under-second.ensures.same ∙ c.distinct_under-first.ensures.same ∙ c.is_new.ensures.same

pub returns-clause-few : goal.returns-clause-few
returns-clause-few t c = λ few.
    let m : c.args.met + 1 ≤ c.args.most = omega (arith, c.if-met-most.false) in
    c.distinct_under.ensures.few (c.distinct_under-third.ensures.few (c.distinct_under-second.ensures.few (c.distinct_under-first.ensures.few m)))

pub returns-clause-reads : goal.returns-clause-reads
returns-clause-reads t c =
    five_reads c.quarters.ensures.reads c.distinct_under-first.ensures.reads c.distinct_under-second.ensures.reads c.distinct_under-third.ensures.reads c.distinct_under.ensures.reads
