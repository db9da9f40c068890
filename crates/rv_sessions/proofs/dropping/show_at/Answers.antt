use Rattle.std.proofs.Common.{◌∙◌, sym, ap, refl}
use Rattle.std.specs.Option.{option_map}
use Rattle.run_model.specs.declared.outcome.Outcome.TheVariants.{Ill as ILL}
use Rattle.lang_model.specs.declared.faults.TypeFault.TheVariants.{Unknown}
use Rattle.lang_model.specs.declared.syntax.Item.TheVariants.{Command as COMMAND}
use Rattle.lang_model.specs.declared.syntax.Command.TheVariants.{At as AT}
use Rattle.rv_sessions.proofs.Telling.{refused_did}
use Rattle.rv_sessions.proofs.Asking.{kept_stands, at_lacks, at_unknown}
use Rattle.rv_sessions.proofs.dropping.show_at.Goals as goal

pub show_kept-requires : goal.show_kept-requires
show_kept-requires g c =
    let a = c.args in
    let there = sym c.get.ensures ∙ ap (option_map (λ v. v.now.names.items)) c.in-Some.is in
    record { stood = kept_stands (g.E.Core.worker a.engine.now) a.snaps.now a.name.now c.in-Some.view.now.names.items c.requires.stood there }

pub returns-in-Some : goal.returns-in-Some
returns-in-Some g c input pass i =
    let a = c.args in
    let there = sym c.get.ensures ∙ ap (option_map (λ v. v.now.names.items)) c.in-Some.is in
    c.show_kept.ensures input pass a.snaps.now a.at a.name.now i c.requires.stood there

pub returns-in-None : goal.returns-in-None
returns-in-None g c input pass i =
    let a = c.args in
    let w = g.E.Core.worker a.engine.now in
    let none = sym c.get.ensures ∙ ap (option_map (λ v. v.now.names.items)) c.in-None.is in
    refused_did g.E.Core.least input a.task.now.checked.now a.task.now.by.session a.task.now.by.command (COMMAND (AT a.at a.name.now a.expr.now)) w w pass pass a.snaps.now a.snaps.now
    (ILL (Unknown a.at a.name.now)) c.unknown.result c.unknown.ensures
    (at_unknown g.E.Core.least input a.task.now.checked.now a.task.now.by.session a.task.now.by.command a.at a.name.now a.expr.now w pass a.snaps.now c.requires.stood none a.name.now refl)
    (at_lacks g.E.Core.least input a.task.now.checked.now a.task.now.by.session a.task.now.by.command a.at a.name.now a.expr.now w pass a.snaps.now c.requires.stood)
