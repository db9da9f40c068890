use Rattle.std.proofs.Common.{◌<◌, ◌∙◌, sym, subst, arith}
use Rattle.rel_model.specs.Trees.{bottom_height}
use Rattle.rel_compose.proofs.Reading.{two_reads, three_reads, five_reads, stays}
use Rattle.rel_compose.proofs.Summing.{low_at, low_8}
use Rattle.rel_compose.proofs.large.+dense_under.Goals as goal

pub quarters-requires-clause-over : goal.quarters-requires-clause-over
quarters-requires-clause-over t c = low_at c.args.q.height c.requires.tall c.if-q-eq8.false

pub is_dense-requires-clause-over : goal.is_dense-requires-clause-over
is_dense-requires-clause-over t c = subst (λ h. bottom_height < h) (sym c.if-q-eq8.true) low_8

pub dense_under-first-requires : goal.dense_under-first-requires
dense_under-first-requires t c =
    let q = c.quarters.ensures.quarters in
    let e = q.nw_height in
    let d = c.decreases in
    let x = c.if-q-eq8.false in
    let h = c.requires.tall in
    let n = c.is_new.ensures.same in
    let l = c.requires.some in
    (omega (arith, e, d), (q.nw, (omega (arith, e, x, h), omega (arith, n, l))))

pub dense_under-second-requires : goal.dense_under-second-requires
dense_under-second-requires t c =
    let q = c.quarters.ensures.quarters in
    let e = q.ne_height in
    let d = c.decreases in
    let x = c.if-q-eq8.false in
    let h = c.requires.tall in
    let n = c.dense_under-first.ensures.same ∙ c.is_new.ensures.same in
    let l = c.requires.some in
    (omega (arith, e, d), (stays c.dense_under-first.ensures.reads q.ne, (omega (arith, e, x, h), omega (arith, n, l))))

pub dense_under-third-requires : goal.dense_under-third-requires
dense_under-third-requires t c =
    let q = c.quarters.ensures.quarters in
    let e = q.sw_height in
    let d = c.decreases in
    let x = c.if-q-eq8.false in
    let h = c.requires.tall in
    let n = c.dense_under-second.ensures.same ∙ c.dense_under-first.ensures.same ∙ c.is_new.ensures.same in
    let l = c.requires.some in
    (omega (arith, e, d), (stays (two_reads c.dense_under-first.ensures.reads c.dense_under-second.ensures.reads) q.sw, (omega (arith, e, x, h), omega (arith, n, l))))

pub dense_under-requires : goal.dense_under-requires
dense_under-requires t c =
    let q = c.quarters.ensures.quarters in
    let e = q.se_height in
    let d = c.decreases in
    let x = c.if-q-eq8.false in
    let h = c.requires.tall in
    let n = c.dense_under-third.ensures.same ∙ c.dense_under-second.ensures.same ∙ c.dense_under-first.ensures.same ∙ c.is_new.ensures.same in
    let l = c.requires.some in
    let r = three_reads c.dense_under-first.ensures.reads c.dense_under-second.ensures.reads c.dense_under-third.ensures.reads in
    (omega (arith, e, d), (stays r q.se, (omega (arith, e, x, h), omega (arith, n, l))))

pub returns-clause-same : goal.returns-clause-same
returns-clause-same t c = c.dense_under.ensures.same ∙ c.dense_under-third.ensures.same ∙ c.dense_under-second.ensures.same ∙ c.dense_under-first.ensures.same ∙ c.is_new.ensures.same

pub returns-clause-reads : goal.returns-clause-reads
returns-clause-reads t c = five_reads c.quarters.ensures.reads c.dense_under-first.ensures.reads c.dense_under-second.ensures.reads c.dense_under-third.ensures.reads c.dense_under.ensures.reads
