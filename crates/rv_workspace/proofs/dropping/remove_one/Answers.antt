use Rattle.std.proofs.Common.{◌∙◌, ◌∷◌, [], ap, sym, arith}
use Rattle.run_model.specs.Versions.{raised, versions_after}
use Rattle.rv_workspace.proofs.Noting.{all_fit, versions-removal}
use Rattle.rv_workspace.proofs.dropping.remove_one.Goals as goal

pub note_one-requires : goal.note_one-requires
note_one-requires c =
    let h = c.args.history.now in
    record {
      fits = all_fit c.args.versions.now h.items (c.args.name ∷ []) h.cap c.requires.few (omega (arith, c.requires.room, h.ok.0)) (omega (arith, h.small));
    }

pub returns-clause-versions : goal.returns-clause-versions
returns-clause-versions c first counted =
    c.in-Ok.ensures.value ∙ ap (raised c.args.name) counted
    ∙ sym (ap (versions_after first) c.push_reserved.ensures.items ∙ versions-removal first c.args.session c.args.command c.args.name c.args.history.now.items)
