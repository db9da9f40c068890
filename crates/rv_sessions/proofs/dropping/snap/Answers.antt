use Rattle.std.proofs.Common.{◌∙◌, Result, Ok, Err, sym, ap, subst}
use Rattle.rel_model.specs.declared.NoMemory.{NoMemory as LACK}
use Rattle.lang_model.specs.declared.syntax.Item.TheVariants.{Command as COMMAND}
use Rattle.lang_model.specs.declared.syntax.Command.TheVariants.{Snap as SNAP}
use Rattle.rv_sessions.specs.declared.told.Told.{Told}
use Rattle.rv_sessions.specs.Acting.{DidItem}
use Rattle.rv_sessions.specs.Standing.{Kept}
use Rattle.rv_sessions.proofs.Telling.{untouched}
use Rattle.rv_sessions.proofs.Asking.{snap_done, snap_lacks, snap_unread}
use Rattle.rv_sessions.proofs.Acting.{not_read}
use Rattle.rv_sessions.proofs.dropping.snap.Goals as goal
use Rattle.rv_sessions.proofs.dropping.snap.Goals.{in-Ok-keep, in-Err-keep}

pub returns-in_default : goal.returns-in_default
returns-in_default g c input script =
    let a = c.args in
    let w = g.E.Core.worker a.seat.now.engine in
    snap_unread g.E.Core.least input script a.task.now.by.session a.task.now.by.command a.name.now w w a.seat.now.pass a.seat.now.pass a.snaps.now c.requires.stood
    (untouched w a.seat.now.pass)

pub returns-in-Err : goal.returns-in-Err
returns-in-Err g c input script =
    let a = c.args in
    let w = g.E.Core.worker in
    snap_unread g.E.Core.least input script a.task.now.by.session a.task.now.by.command a.name.now (w a.seat.now.engine) (w c.read_turn.new.seat.engine) a.seat.now.pass c.read_turn.new.seat.pass
    a.snaps.now c.requires.stood (not_read c.in-Err.ensures.read.1)

pub returns : goal.returns
returns g c input script =
    let a = c.args in
    let w = g.E.Core.worker in
    let v = c.in-Ok-read_turn in
    let P : Kept → Result Told LACK → Type 0 = λ left r. DidItem g.E.Core.least input script a.task.now.by.session a.task.now.by.command (COMMAND (SNAP a.name.now)) (w a.seat.now.engine)
    (w c.read_turn.new.seat.engine) a.seat.now.pass c.read_turn.new.seat.pass a.snaps.now left r in
    elim c.match-keep.branch [
      | in-Ok-keep b ↦ subst (P c.keep.new.self) (sym (b.result-is ∙ ap (λ x. Ok x) b.done.ensures))
          (snap_done g.E.Core.least input script a.task.now.by.session a.task.now.by.command a.name.now (w a.seat.now.engine) (w c.read_turn.new.seat.engine) a.seat.now.pass c.read_turn.new.seat.pass
          a.snaps.now c.requires.stood v.ensures.read.0 c.in-Ok.own v.view.names.items c.keep.new.self v.ensures.read.1 c.in-Ok.ensures v.ensures.read.2 b.in-Ok-keep.ensures.value)
      | in-Err-keep b ↦ subst (P c.keep.new.self) (sym b.result-is)
          (subst (λ x. P x (Err b.in-Err-keep.lack)) (sym b.in-Err-keep.ensures.err)
          (snap_lacks g.E.Core.least input script a.task.now.by.session a.task.now.by.command a.name.now (w a.seat.now.engine) (w c.read_turn.new.seat.engine) a.seat.now.pass c.read_turn.new.seat.pass
          a.snaps.now c.requires.stood v.ensures.read.0 v.ensures.read.1))
    ]
