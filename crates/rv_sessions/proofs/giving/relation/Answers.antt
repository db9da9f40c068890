use Rattle.std.proofs.Common.{◌∙◌, sym, ap, subst}
use Rattle.run_model.specs.Due.{listing_over}
use Rattle.rv_sessions.specs.Valuing.{IsRefusal}
use Rattle.rv_sessions.proofs.Overs.{over_refuses, within_limits}
use Rattle.rv_sessions.proofs.Assigning.{list_refused}
use Rattle.rv_sessions.proofs.giving.relation.Goals as goal

pub refused-requires : goal.refused-requires
refused-requires g c d =
    let a = c.args in
    subst IsRefusal d (over_refuses a.rows a.rows_at a.cols a.cols_at a.list.now.items c.in-Some.outcome
    (ap (listing_over a.rows a.rows_at a.cols a.cols_at) (sym c.as_slice.ensures.value) ∙ sym c.in-Some.ensures))

pub listed_relation-requires-clause-row_limit : goal.listed_relation-requires-clause-row_limit
listed_relation-requires-clause-row_limit g c =
    let a = c.args in
    (within_limits a.rows a.rows_at a.cols a.cols_at a.list.now.items
    (ap (listing_over a.rows a.rows_at a.cols a.cols_at) (sym c.as_slice.ensures.value) ∙ sym c.in-None.ensures)).0

pub listed_relation-requires-clause-col_limit : goal.listed_relation-requires-clause-col_limit
listed_relation-requires-clause-col_limit g c =
    let a = c.args in
    (within_limits a.rows a.rows_at a.cols a.cols_at a.list.now.items
    (ap (listing_over a.rows a.rows_at a.cols a.cols_at) (sym c.as_slice.ensures.value) ∙ sym c.in-None.ensures)).1

pub returns-in-Some : goal.returns-in-Some
returns-in-Some g c input script snaps stood =
    let a = c.args in
    list_refused g.E.Core.least input script a.task.now.by.session a.task.now.by.command a.name.now a.rows a.rows_at a.cols a.cols_at a.list.now
    (g.E.Core.worker a.seat.now.engine) a.seat.now.pass snaps stood c.in-Some.outcome c.refused.result
    (ap (listing_over a.rows a.rows_at a.cols a.cols_at) (sym c.as_slice.ensures.value) ∙ sym c.in-Some.ensures) c.refused.ensures
