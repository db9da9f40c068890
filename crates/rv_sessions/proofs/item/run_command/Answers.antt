use Rattle.std.proofs.Common.{sym, subst}
use Rattle.lang_model.specs.declared.syntax.Item.TheVariants.{Command as COMMAND}
use Rattle.lang_model.specs.declared.syntax.Command.TheVariants.{Print as PRINT, List as LIST, Count as COUNT, Typed as TYPED, Save as SAVE}
use Rattle.rv_sessions.specs.Telling.{input_of}
use Rattle.rv_sessions.specs.Acting.{DidItem}
use Rattle.rv_sessions.proofs.Given.{given_turns, given_files}
use Rattle.rv_sessions.proofs.Items.{print_item, list_item, count_item, type_item, save_item}
use Rattle.rv_sessions.proofs.item.run_command.Goals as goal

pub returns-in-Relation : goal.returns-in-Relation
returns-in-Relation g c =
    let a = c.args in
    let w = g.E.Core.worker in
    let i = input_of a.task.now.files.now a.task.now.turns in
    subst (λ x. DidItem g.E.Core.least i a.task.now.checked.now a.task.now.by.session a.task.now.by.command (COMMAND x) (w a.seat.now.engine) (w c.relation.new.seat.engine) a.seat.now.pass c.relation.new.seat.pass a.snaps.now a.snaps.now c.relation.result)
    (sym c.in-Relation.is) (c.relation.ensures i a.task.now.checked.now a.snaps.now c.requires.stood)

pub returns-in-Let : goal.returns-in-Let
returns-in-Let g c =
    let a = c.args in
    let w = g.E.Core.worker in
    let i = input_of a.task.now.files.now a.task.now.turns in
    subst (λ x. DidItem g.E.Core.least i a.task.now.checked.now a.task.now.by.session a.task.now.by.command (COMMAND x) (w a.seat.now.engine) (w c.let_value.new.seat.engine) a.seat.now.pass c.let_value.new.seat.pass a.snaps.now a.snaps.now c.let_value.result)
    (sym c.in-Let.is) (c.let_value.ensures i a.snaps.now (given_turns a.task.now.files.now a.task.now.turns) c.requires.stood)

pub returns-in-Print : goal.returns-in-Print
returns-in-Print g c =
    let a = c.args in
    let w = g.E.Core.worker in
    let i = input_of a.task.now.files.now a.task.now.turns in
    subst (λ x. DidItem g.E.Core.least i a.task.now.checked.now a.task.now.by.session a.task.now.by.command (COMMAND x) (w a.seat.now.engine) (w c.show.new.seat.engine) a.seat.now.pass c.show.new.seat.pass a.snaps.now a.snaps.now c.show.result)
    (sym c.in-Print.is) (c.show.ensures i a.snaps.now (COMMAND (PRINT c.in-Print.value)) (given_turns a.task.now.files.now a.task.now.turns) c.requires.stood (print_item c.in-Print.value))

pub returns-in-List : goal.returns-in-List
returns-in-List g c =
    let a = c.args in
    let w = g.E.Core.worker in
    let i = input_of a.task.now.files.now a.task.now.turns in
    subst (λ x. DidItem g.E.Core.least i a.task.now.checked.now a.task.now.by.session a.task.now.by.command (COMMAND x) (w a.seat.now.engine) (w c.show-in-List.new.seat.engine) a.seat.now.pass c.show-in-List.new.seat.pass a.snaps.now a.snaps.now c.show-in-List.result)
    (sym c.in-List.is) (c.show-in-List.ensures i a.snaps.now (COMMAND (LIST c.in-List.value)) (given_turns a.task.now.files.now a.task.now.turns) c.requires.stood (list_item c.in-List.value))

pub returns-in-Count : goal.returns-in-Count
returns-in-Count g c =
    let a = c.args in
    let w = g.E.Core.worker in
    let i = input_of a.task.now.files.now a.task.now.turns in
    subst (λ x. DidItem g.E.Core.least i a.task.now.checked.now a.task.now.by.session a.task.now.by.command (COMMAND x) (w a.seat.now.engine) (w c.show-in-Count.new.seat.engine) a.seat.now.pass c.show-in-Count.new.seat.pass a.snaps.now a.snaps.now c.show-in-Count.result)
    (sym c.in-Count.is) (c.show-in-Count.ensures i a.snaps.now (COMMAND (COUNT c.in-Count.value)) (given_turns a.task.now.files.now a.task.now.turns) c.requires.stood (count_item c.in-Count.value))

pub returns-in-Typed : goal.returns-in-Typed
returns-in-Typed g c =
    let a = c.args in
    let w = g.E.Core.worker in
    let i = input_of a.task.now.files.now a.task.now.turns in
    subst (λ x. DidItem g.E.Core.least i a.task.now.checked.now a.task.now.by.session a.task.now.by.command (COMMAND x) (w a.seat.now.engine) (w c.show-in-Typed.new.seat.engine) a.seat.now.pass c.show-in-Typed.new.seat.pass a.snaps.now a.snaps.now c.show-in-Typed.result)
    (sym c.in-Typed.is) (c.show-in-Typed.ensures i a.snaps.now (COMMAND (TYPED c.in-Typed.value)) (given_turns a.task.now.files.now a.task.now.turns) c.requires.stood (type_item c.in-Typed.value))

pub returns-in-Remove : goal.returns-in-Remove
returns-in-Remove g c =
    let a = c.args in
    let w = g.E.Core.worker in
    let i = input_of a.task.now.files.now a.task.now.turns in
    subst (λ x. DidItem g.E.Core.least i a.task.now.checked.now a.task.now.by.session a.task.now.by.command (COMMAND x) (w a.seat.now.engine) (w c.drop_name.new.seat.engine) a.seat.now.pass c.drop_name.new.seat.pass a.snaps.now a.snaps.now c.drop_name.result)
    (sym c.in-Remove.is) (c.drop_name.ensures i a.task.now.checked.now a.snaps.now c.requires.stood)

pub returns-in-Snap : goal.returns-in-Snap
returns-in-Snap g c =
    let a = c.args in
    let w = g.E.Core.worker in
    let i = input_of a.task.now.files.now a.task.now.turns in
    subst (λ x. DidItem g.E.Core.least i a.task.now.checked.now a.task.now.by.session a.task.now.by.command (COMMAND x) (w a.seat.now.engine) (w c.snap.new.seat.engine) a.seat.now.pass c.snap.new.seat.pass a.snaps.now c.snap.new.snaps c.snap.result)
    (sym c.in-Snap.is) (c.snap.ensures i a.task.now.checked.now)

pub returns-in-At : goal.returns-in-At
returns-in-At g c =
    let a = c.args in
    let w = g.E.Core.worker in
    let i = input_of a.task.now.files.now a.task.now.turns in
    subst (λ x. DidItem g.E.Core.least i a.task.now.checked.now a.task.now.by.session a.task.now.by.command (COMMAND x) (w a.seat.now.engine) (w c.show_at.new.engine) a.seat.now.pass a.seat.now.pass a.snaps.now a.snaps.now c.show_at.result)
    (sym c.in-At.is) (c.show_at.ensures i a.seat.now.pass (given_turns a.task.now.files.now a.task.now.turns))

pub returns-in-Load : goal.returns-in-Load
returns-in-Load g c =
    let a = c.args in
    let w = g.E.Core.worker in
    let i = input_of a.task.now.files.now a.task.now.turns in
    subst (λ x. DidItem g.E.Core.least i a.task.now.checked.now a.task.now.by.session a.task.now.by.command (COMMAND x) (w a.seat.now.engine) (w c.load.new.seat.engine) a.seat.now.pass c.load.new.seat.pass a.snaps.now a.snaps.now c.load.result)
    (sym c.in-Load.is) (c.load.ensures i a.task.now.checked.now a.snaps.now (given_files a.task.now.files.now a.task.now.turns) c.requires.stood)

pub returns-in-Save : goal.returns-in-Save
returns-in-Save g c =
    let a = c.args in
    let w = g.E.Core.worker in
    let i = input_of a.task.now.files.now a.task.now.turns in
    subst (λ x. DidItem g.E.Core.least i a.task.now.checked.now a.task.now.by.session a.task.now.by.command (COMMAND x) (w a.seat.now.engine) (w c.save.new.seat.engine) a.seat.now.pass c.save.new.seat.pass a.snaps.now a.snaps.now c.save.result)
    (sym c.in-Save.is) (c.save.ensures i a.snaps.now (COMMAND (SAVE c.in-Save.value c.in-Save.file)) (given_turns a.task.now.files.now a.task.now.turns) c.requires.stood (save_item c.in-Save.value c.in-Save.file))

pub returns-in-Atomic : goal.returns-in-Atomic
returns-in-Atomic g c =
    let a = c.args in
    let w = g.E.Core.worker in
    let i = input_of a.task.now.files.now a.task.now.turns in
    subst (λ x. DidItem g.E.Core.least i a.task.now.checked.now a.task.now.by.session a.task.now.by.command (COMMAND x) (w a.seat.now.engine) (w c.atomic.new.seat.engine) a.seat.now.pass c.atomic.new.seat.pass a.snaps.now a.snaps.now c.atomic.result)
    (sym c.in-Atomic.is) (c.atomic.ensures i a.snaps.now (given_turns a.task.now.files.now a.task.now.turns) c.requires.stood)

pub returns-in-Explain : goal.returns-in-Explain
returns-in-Explain g c =
    let a = c.args in
    let w = g.E.Core.worker in
    let i = input_of a.task.now.files.now a.task.now.turns in
    subst (λ x. DidItem g.E.Core.least i a.task.now.checked.now a.task.now.by.session a.task.now.by.command (COMMAND x) (w a.seat.now.engine) (w c.explained.new.seat.engine) a.seat.now.pass c.explained.new.seat.pass a.snaps.now a.snaps.now c.explained.result)
    (sym c.in-Explain.is) (c.explained.ensures i a.snaps.now c.requires.stood)

pub returns-in-LoadAll : goal.returns-in-LoadAll
returns-in-LoadAll g c =
    let a = c.args in
    let w = g.E.Core.worker in
    let i = input_of a.task.now.files.now a.task.now.turns in
    subst (λ x. DidItem g.E.Core.least i a.task.now.checked.now a.task.now.by.session a.task.now.by.command (COMMAND x) (w a.seat.now.engine) (w c.load_all.new.seat.engine) a.seat.now.pass c.load_all.new.seat.pass a.snaps.now a.snaps.now c.load_all.result)
    (sym c.in-LoadAll.is) (c.load_all.ensures i a.task.now.checked.now a.snaps.now (given_files a.task.now.files.now a.task.now.turns) c.requires.stood)

pub returns-in-SaveAll : goal.returns-in-SaveAll
returns-in-SaveAll g c =
    let a = c.args in
    let w = g.E.Core.worker in
    let i = input_of a.task.now.files.now a.task.now.turns in
    subst (λ x. DidItem g.E.Core.least i a.task.now.checked.now a.task.now.by.session a.task.now.by.command (COMMAND x) (w a.seat.now.engine) (w c.save_all.new.seat.engine) a.seat.now.pass c.save_all.new.seat.pass a.snaps.now a.snaps.now c.save_all.result)
    (sym c.in-SaveAll.is) (c.save_all.ensures i a.task.now.checked.now a.snaps.now c.requires.stood)
