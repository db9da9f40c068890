use Rattle.std.proofs.Common.{refl, sym, subst}
use Rattle.lang_model.specs.State.{lists}
use Rattle.lang_model.specs.declared.syntax.Item.TheVariants.{Command as COMMAND}
use Rattle.lang_model.specs.declared.syntax.Command.TheVariants.{Relation as RELATION}
use Rattle.rel_model.specs.Relation.{relation_of}
use Rattle.rel_model.specs.Worker.{Gives, MakesAtMost}
use Rattle.rel_model.proofs.Workers.{keeps_itself}
use Rattle.run_model.specs.Cost.{listed_count, listed_cost}
use Rattle.run_model.specs.declared.outcome.Outcome.TheVariants.{Nodes as NODES}
use Rattle.rv_sessions.specs.Doing.{Did}
use Rattle.rv_sessions.specs.Telling.{text_of, saved_by}
use Rattle.rv_sessions.proofs.FoldingTurns.{through_none}
use Rattle.rv_sessions.proofs.Acting.{through_nothing}
use Rattle.rv_sessions.proofs.Telling.{refused_did}
use Rattle.rv_sessions.proofs.Assigning.{list_lacks, list_full, made_lacks, list_given, full_rose}
use Rattle.rv_sessions.proofs.giving.listed_relation.Goals as goal

pub returns-in_default : goal.returns-in_default
returns-in_default g c input script snaps stood =
    let a = c.args in
    list_lacks g.E.Core.least input script a.task.now.by.session a.task.now.by.command a.name.now a.rows a.rows_at a.cols a.cols_at a.list.now
    (g.E.Core.worker a.seat.now.engine) a.seat.now.pass snaps stood

pub returns-in-Ok-assign_turn : goal.returns-in-Ok-assign_turn
returns-in-Ok-assign_turn g c input script snaps stood =
    let a = c.args in
    let w = g.E.Core.worker in
    let l = c.in-Ok-listed.ensures in
    let same = c.as_slice.ensures.value in
    subst (λ z. Did g.E.Core.least input script a.task.now.by.session a.task.now.by.command (COMMAND (RELATION a.name.now a.rows a.rows_at a.cols a.cols_at a.list.now)) (w a.seat.now.engine)
    (w c.assign_turn.new.seat.engine) a.seat.now.pass c.assign_turn.new.seat.pass snaps snaps z.outcome (text_of z.reply) (saved_by z.save)) (sym c.done.ensures)
    (list_given g.E.Core.least input script a.task.now.by.session a.task.now.by.command a.name.now a.rows a.rows_at a.cols a.cols_at a.list.now
    (w a.seat.now.engine) a.seat.now.pass snaps stood (w c.listed.new.engine) c.requires.within l.keeps
    (subst (λ x. MakesAtMost (listed_cost g.E.Core.least (listed_count x) a.rows a.cols) (w a.seat.now.engine) (w c.listed.new.engine)) same l.room)
    (w c.assign_turn.new.seat.engine) c.assign_turn.new.seat.pass c.in-Ok-listed.rel c.in-Ok.own c.in-Ok.ensures
    (subst (λ x. Gives (w c.listed.new.engine) a.rows a.cols (relation_of a.rows a.cols (lists x)) c.in-Ok-listed.rel) same l.value)
    c.in-Ok-assign_turn.ensures.assigned)

pub returns-in-Ok-listed : goal.returns-in-Ok-listed
returns-in-Ok-listed g c input script snaps stood =
    let a = c.args in
    let w = g.E.Core.worker in
    let l = c.in-Ok-listed.ensures in
    let t = c.in-Err.ensures.assigned in
    made_lacks g.E.Core.least input script a.task.now.by.session a.task.now.by.command a.name.now a.rows a.rows_at a.cols a.cols_at a.list.now
    (w a.seat.now.engine) a.seat.now.pass snaps stood (w c.listed.new.engine) c.requires.within l.keeps
    (subst (λ x. MakesAtMost (listed_cost g.E.Core.least (listed_count x) a.rows a.cols) (w a.seat.now.engine) (w c.listed.new.engine)) c.as_slice.ensures.value l.room)
    (w c.assign_turn.new.seat.engine) c.assign_turn.new.seat.pass (through_nothing t.1) t.1.stays.keeps t.1.stays.made

pub returns : goal.returns
returns g c input script snaps stood =
    let a = c.args in
    let w = g.E.Core.worker in
    let l = c.in-Err-NoMemory.ensures in
    made_lacks g.E.Core.least input script a.task.now.by.session a.task.now.by.command a.name.now a.rows a.rows_at a.cols a.cols_at a.list.now
    (w a.seat.now.engine) a.seat.now.pass snaps stood (w c.listed.new.engine) c.requires.within l.keeps
    (subst (λ x. MakesAtMost (listed_cost g.E.Core.least (listed_count x) a.rows a.cols) (w a.seat.now.engine) (w c.listed.new.engine)) c.as_slice.ensures.value l.room)
    (w c.listed.new.engine) a.seat.now.pass (through_none a.seat.now.pass) (keeps_itself (w c.listed.new.engine)) refl

pub returns-in-Err-Full : goal.returns-in-Err-Full
returns-in-Err-Full g c input script snaps stood =
    let a = c.args in
    let w = g.E.Core.worker in
    let l = c.in-Err-Full.ensures in
    let room = subst (λ x. MakesAtMost (listed_cost g.E.Core.least (listed_count x) a.rows a.cols) (w a.seat.now.engine) (w c.listed.new.engine)) c.as_slice.ensures.value l.room in
    refused_did g.E.Core.least input script a.task.now.by.session a.task.now.by.command (COMMAND (RELATION a.name.now a.rows a.rows_at a.cols a.cols_at a.list.now)) (w a.seat.now.engine)
    (w c.listed.new.engine) a.seat.now.pass a.seat.now.pass snaps snaps NODES c.refused.result c.refused.ensures
    (list_full g.E.Core.least input script a.task.now.by.session a.task.now.by.command a.name.now a.rows a.rows_at a.cols a.cols_at a.list.now
    (w a.seat.now.engine) a.seat.now.pass snaps stood (w c.listed.new.engine) c.requires.within l.keeps room
    (full_rose (w a.seat.now.engine) (w c.listed.new.engine) c.listed.result c.in-Err-Full.field-0 c.listed.ensures.cause c.in-Err-Full.is c.in-Err-Full.field-0-is))
    (made_lacks g.E.Core.least input script a.task.now.by.session a.task.now.by.command a.name.now a.rows a.rows_at a.cols a.cols_at a.list.now
    (w a.seat.now.engine) a.seat.now.pass snaps stood (w c.listed.new.engine) c.requires.within l.keeps room
    (w c.listed.new.engine) a.seat.now.pass (through_none a.seat.now.pass) (keeps_itself (w c.listed.new.engine)) refl)
