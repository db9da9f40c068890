use Rattle.std.proofs.Common.{◌∙◌, sym, ap}
use Rattle.lang_model.specs.Checking.{faults, let_faults, command_scope, no_name}
use Rattle.rv_types.specs.Found.{told, noted}
use Rattle.rv_types.specs.Items.{value_of_command}
use Rattle.rv_types.proofs.Scoping.{faults_of_parts, command_faults-parts}
use Rattle.rv_types.proofs.item.check_command.Goals as goal

pub returns-in-Some : goal.returns-in-Some
returns-in-Some c =
    let E = c.args.scope.now.earlier.now in
    let command = c.args.command.now in
    let lets = c.in-Some.lets.now in
    c.check_lets.ensures
    ∙ ap (noted (told c.args.so_far))
    (ap (λ s. let_faults s lets) c.requires
    ∙ sym (command_faults-parts E command ∙ ap (λ o. faults_of_parts (command_scope E) o (value_of_command command)) (sym c.in-Some.ensures)))

pub returns-in-Some-value_of : goal.returns-in-Some-value_of
returns-in-Some-value_of c =
    let E = c.args.scope.now.earlier.now in
    let v = c.in-Some-value_of.value.now in
    c.check_alone.ensures
    ∙ ap (noted (told c.args.so_far))
    (ap (λ s. faults s no_name v) c.requires
    ∙ sym (command_faults-parts E c.args.command.now ∙ (λ i. faults_of_parts (command_scope E) (sym c.in-None.ensures i) (sym c.in-Some-value_of.ensures i))))

pub returns-in-None-value_of : goal.returns-in-None-value_of
returns-in-None-value_of c =
    let E = c.args.scope.now.earlier.now in
    ap (noted (told c.args.so_far)) (sym (command_faults-parts E c.args.command.now ∙ (λ i. faults_of_parts (command_scope E) (sym c.in-None.ensures i) (sym c.in-None-value_of.ensures i))))
