use Rattle.std.proofs.Common.{◌≡◌, ◌∙◌, ◌++◌, ◌∷◌, [], ap, subst}
use Rattle.std.specs.Prelude.{OnOk}
use Rattle.name_map.specs.Giving.{set_all}
use Rattle.rv_workspace.specs.Entering.{assigns}
use Rattle.rv_workspace.proofs.giving.give_one.Goals as goal

pub returns-clause-value : goal.returns-clause-value
returns-clause-value c =
    let t = c.give_all in
    let one = c.push_reserved.ensures.items ∙ ap (λ xs. xs ++ (c.args.name, c.args.rel) ∷ []) c.in_ok-list.ensures.items in
    subst (λ xs. OnOk t.result (t.new.names ≡ set_all xs c.args.names.now)) one t.ensures.value

pub returns-clause-entered : goal.returns-clause-entered
returns-clause-entered c =
    let t = c.give_all in
    let one = c.push_reserved.ensures.items ∙ ap (λ xs. xs ++ (c.args.name, c.args.rel) ∷ []) c.in_ok-list.ensures.items in
    subst (λ xs. OnOk t.result (t.new.history.items ≡ c.args.history.now.items ++ assigns c.args.session c.args.command xs)) one t.ensures.entered
