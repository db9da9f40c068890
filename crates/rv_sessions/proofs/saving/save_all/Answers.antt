use Rattle.std.proofs.Common.{◌∙◌}
use Rattle.rv_sessions.proofs.Telling.{untouched}
use Rattle.rv_sessions.proofs.Acting.{not_read}
use Rattle.rv_sessions.proofs.SavesAll.{names_stand, save_unread, save_done, save_refused}
use Rattle.rv_sessions.proofs.saving.save_all.Goals as goal

pub returns-in_default : goal.returns-in_default
returns-in_default g c input script snaps stood =
    let a = c.args in
    let w = g.E.Core.worker a.seat.now.engine in
    save_unread g.E.Core.least input script a.task.now.by.session a.task.now.by.command a.file.now w a.seat.now.pass snaps stood w a.seat.now.pass (untouched w a.seat.now.pass)

pub returns-in-Err : goal.returns-in-Err
returns-in-Err g c input script snaps stood =
    let a = c.args in
    let w = g.E.Core.worker in
    save_unread g.E.Core.least input script a.task.now.by.session a.task.now.by.command a.file.now (w a.seat.now.engine) a.seat.now.pass snaps stood (w c.read_turn.new.seat.engine) c.read_turn.new.seat.pass
    (not_read c.in-Err.ensures.read.1)

pub write_k2_all-requires : goal.write_k2_all-requires
write_k2_all-requires g c =
    let a = c.args in
    let w = g.E.Core.worker in
    let r = c.in-Ok-read_turn.ensures.read in
    names_stand (w c.read_turn.new.seat.engine) r.0 c.as_slice.result.now a.task.now.by.session a.task.now.by.command (w a.seat.now.engine) a.seat.now.pass c.read_turn.new.seat.pass r.1
    (c.as_slice.ensures.value ∙ r.2)

pub returns-in-Err-write_k2_all : goal.returns-in-Err-write_k2_all
returns-in-Err-write_k2_all g c input script snaps stood =
    let a = c.args in
    let w = g.E.Core.worker in
    let r = c.in-Ok-read_turn.ensures.read in
    let e = c.in-Err-write_k2_all.ensures in
    save_refused g.E.Core.least input script a.task.now.by.session a.task.now.by.command a.file.now (w a.seat.now.engine) a.seat.now.pass snaps stood
    (w c.read_turn.new.seat.engine) (w c.write_k2_all.new.engine) c.read_turn.new.seat.pass r.0 r.1 e.keeps e.room c.as_slice.result.now
    (c.as_slice.ensures.value ∙ r.2) c.in-Err-write_k2_all.why c.not_written.result e.over c.not_written.ensures

pub returns : goal.returns
returns g c input script snaps stood =
    let a = c.args in
    let w = g.E.Core.worker in
    let r = c.in-Ok-read_turn.ensures.read in
    let o = c.in-Ok-write_k2_all in
    save_done g.E.Core.least input script a.task.now.by.session a.task.now.by.command a.file.now (w a.seat.now.engine) a.seat.now.pass snaps stood
    (w c.read_turn.new.seat.engine) (w c.write_k2_all.new.engine) c.read_turn.new.seat.pass r.0 r.1 o.ensures.keeps o.ensures.room c.as_slice.result.now
    (c.as_slice.ensures.value ∙ r.2) c.in-Ok.name o.bytes.items c.in-Ok.ensures o.ensures.text o.ensures.within
