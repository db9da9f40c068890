use Rattle.std.proofs.Common.{◌∙◌, sym, ap}
use Rattle.std.specs.Option.{option_map}
use Rattle.run_model.specs.Names.{lookup}
use Rattle.name_map.proofs.Entries.{lookup-lookup}
use Rattle.rv_sessions.proofs.Keeping.{items_of, found_view, kept-lookup}
use Rattle.rv_sessions.proofs.snapshots.Snapshots.get.Goals as goal

pub returns : goal.returns
returns c =
    let m = c.self.inside.map.entries in
    let n = c.args.name.now in
    found_view c.get.result ∙ ap (option_map items_of) (c.get.ensures.value ∙ lookup-lookup m n) ∙ sym (kept-lookup m n)
    ∙ ap (λ s. lookup s n) c.self.view_is
