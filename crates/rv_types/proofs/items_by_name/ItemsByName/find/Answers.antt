use Rattle.std.proofs.Common.{◌∙◌, ap}
use Rattle.rv_types.specs.Defining.{number_beside}
use Rattle.rv_types.proofs.Defining.{lookup-numbered}
use Rattle.rv_types.proofs.items_by_name.ItemsByName.find.Goals as goal

pub returns : goal.returns
returns c =
    let name = c.args.name.now in
    c.copied.ensures ∙ c.get.ensures.value ∙ lookup-numbered (λ k. k.items) c.self.inside.numbers.entries name ∙ ap (λ es. number_beside es name) c.self.view_is
