use Rattle.std.proofs.Common.{arith}
use Rattle.rel_model.proofs.QuadLaws.{quad_stays, is_quad-stays, reads_itself}
use Rattle.rel_compose.proofs.Coming.{reading, gives, fails}
use Rattle.rel_compose.proofs.Multiplying.{composed_now}
use Rattle.rel_compose.proofs.Fitting.{quad_fits}
use Rattle.rel_compose.proofs.rows.noted_by_rows.Goals as goal

pub returns-in_err-found : goal.returns-in_err-found
returns-in_err-found c =
    let f = quad_fits c.args.a.height in
    let e = c.in_err-found.ensures in
    fails c.from_residual.result c.from_residual.ensures.0 (omega (arith, f)) (reading (reads_itself _ e.keeps.before)) e.keeps e.counts

pub note-requires-clause-a_stands : goal.note-requires-clause-a_stands
note-requires-clause-a_stands c = quad_stays _ _ _ _ c.in_ok-found.ensures.keeps c.requires.a_stands

pub note-requires-clause-b_stands : goal.note-requires-clause-b_stands
note-requires-clause-b_stands c = quad_stays _ _ _ _ c.in_ok-found.ensures.keeps c.requires.b_stands

pub note-requires-clause-holds : goal.note-requires-clause-holds
note-requires-clause-holds c = composed_now _ c.args.nodes.now c.compose_by_rows.new.nodes c.args.a c.args.b c.in_ok-found.found c.in_ok-found.ensures.keeps c.requires.a_stands c.requires.b_stands c.in_ok-found.ensures.value

pub returns : goal.returns
returns c =
    let f = quad_fits c.args.a.height in
    let e = c.in_ok-found.ensures in
    let n = c.note.ensures.reads in
    gives (is_quad-stays 0 _ _ _ _ _ n.keeps c.in_ok-found.ensures.value) (omega (arith, f)) (record { keeps = e.keeps; misses = e.counts }) n.keeps n.misses
