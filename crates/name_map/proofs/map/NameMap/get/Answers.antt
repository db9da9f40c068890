use Rattle.std.proofs.Common.{◌∙◌, ap}
use Rattle.run_model.specs.Names.{lookup}
use Rattle.name_map.proofs.Entries.{lookup-lookup}
use Rattle.name_map.proofs.map.NameMap.get.Goals as goal

pub returns : goal.returns
returns g c =
    let n = c.args.name.now in
    c.copied.ensures ∙ c.get.ensures.value ∙ lookup-lookup c.self.inside.map.entries n ∙ ap (λ m. lookup m n) c.self.view_is
