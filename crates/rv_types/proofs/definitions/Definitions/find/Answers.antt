use Rattle.std.proofs.Common.{◌∙◌, option_map, ap}
use Rattle.lang_model.specs.Checking.{definition_of}
use Rattle.rv_types.specs.Definitions.{summary_of}
use Rattle.rv_types.proofs.Naming.{lookup-knowns}
use Rattle.rv_types.proofs.definitions.Definitions.find.Goals as goal

pub returns : goal.returns
returns c =
    let n = c.args.name.now in
    c.copied.ensures ∙ c.get.ensures.value ∙ lookup-knowns (λ k. k.items) c.self.inside.by_name.entries n ∙ ap (λ ds. option_map summary_of (definition_of ds n)) c.self.view_is
