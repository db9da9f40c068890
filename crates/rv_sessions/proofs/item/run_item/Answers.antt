use Rattle.std.proofs.Common.{Result, Ok, sym, subst}
use Rattle.rel_model.specs.declared.NoMemory.{NoMemory as LACK}
use Rattle.lang_model.specs.declared.syntax.Item.{Item}
use Rattle.lang_model.specs.declared.syntax.Item.TheVariants.{Function, Program}
use Rattle.rv_sessions.specs.declared.seat.Seat.{Seat}
use Rattle.rv_sessions.specs.declared.told.Told.{Told}
use Rattle.rv_sessions.specs.Acting.{DidItem}
use Rattle.rv_sessions.specs.Standing.{Kept}
use Rattle.rv_sessions.specs.Telling.{input_of}
use Rattle.rv_sessions.proofs.Defined.{moved_all, function_did, program_did}
use Rattle.rv_sessions.proofs.item.run_item.Goals as goal
use Rattle.rv_sessions.proofs.item.run_item.Goals.{in-Command, in-Function, in-Program}

pub returns : goal.returns
returns g c =
    let a = c.args in
    let w = g.E.Core.worker in
    let i = input_of a.task.now.files.now a.task.now.turns in
    let P : Item → Seat g.row.E.Denot → Kept → Result Told LACK → Type 0 = λ item s k r.
    DidItem g.E.Core.least i a.task.now.checked.now a.task.now.by.session a.task.now.by.command item (w a.seat.now.engine) (w s.engine) a.seat.now.pass s.pass a.snaps.now k r in
    let m = c.match-item in
    elim m.branch [
      | in-Command b ↦ moved_all P a.item.now _ m.seat b.run_command.new.seat m.snaps b.run_command.new.snaps m.result b.run_command.result
          b.in-Command.is b.seat-is b.snaps-is b.result-is b.run_command.ensures
      | in-Function b ↦ moved_all P a.item.now (Function b.in-Function.at b.in-Function.name b.in-Function.params b.in-Function.body) m.seat a.seat.now m.snaps a.snaps.now m.result (Ok b.done.result)
          b.in-Function.is b.seat-is b.snaps-is b.result-is
          (subst (λ z. P (Function b.in-Function.at b.in-Function.name b.in-Function.params b.in-Function.body) a.seat.now a.snaps.now (Ok z)) (sym b.done.ensures)
          (function_did g.E.Core.least i a.task.now.checked.now a.task.now.by.session a.task.now.by.command b.in-Function.at b.in-Function.name b.in-Function.params b.in-Function.body
          (w a.seat.now.engine) a.seat.now.pass a.snaps.now c.requires.stood))
      | in-Program b ↦ moved_all P a.item.now (Program b.in-Program.at b.in-Program.name b.in-Program.params b.in-Program.decls b.in-Program.body b.in-Program.result) m.seat a.seat.now m.snaps a.snaps.now m.result (Ok b.done-in-Program.result)
          b.in-Program.is b.seat-is b.snaps-is b.result-is
          (subst (λ z. P (Program b.in-Program.at b.in-Program.name b.in-Program.params b.in-Program.decls b.in-Program.body b.in-Program.result) a.seat.now a.snaps.now (Ok z)) (sym b.done-in-Program.ensures)
          (program_did g.E.Core.least i a.task.now.checked.now a.task.now.by.session a.task.now.by.command b.in-Program.at b.in-Program.name b.in-Program.params b.in-Program.decls
          b.in-Program.body b.in-Program.result (w a.seat.now.engine) a.seat.now.pass a.snaps.now c.requires.stood))
    ]
