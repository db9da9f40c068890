use Rattle.std.proofs.Common.{◌∙◌, map, sym, ap}
use Rattle.std.specs.Option.{option_map}
use Rattle.run_model.specs.Inputs.{file_named}
use Rattle.run_model.specs.Filed.{file_of}
use Rattle.rv_sessions.proofs.Loads.{load_absent}
use Rattle.rv_sessions.proofs.loading.load.Goals as goal

pub returns-in-Some : goal.returns-in-Some
returns-in-Some g c input script snaps f stood =
    let a = c.args in
    let found = ap (λ fs. file_named fs a.file.now) f ∙ ap (file_named (map file_of a.task.now.files.now)) (sym c.bytes.ensures) ∙ sym c.file_named.ensures in
    c.loaded.ensures input script snaps (found ∙ ap (option_map (λ x. x.now)) c.in-Some.is) stood

pub returns-in-None : goal.returns-in-None
returns-in-None g c input script snaps f stood =
    let a = c.args in
    let found = ap (λ fs. file_named fs a.file.now) f ∙ ap (file_named (map file_of a.task.now.files.now)) (sym c.bytes.ensures) ∙ sym c.file_named.ensures in
    load_absent g.E.Core.least input script a.task.now.by.session a.task.now.by.command (g.E.Core.worker a.seat.now.engine) a.seat.now.pass snaps stood a.name.now a.file.now
    (found ∙ ap (option_map (λ x. x.now)) c.in-None.is) c.no_file.result c.no_file.ensures
