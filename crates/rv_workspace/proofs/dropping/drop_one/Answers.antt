use Rattle.std.proofs.Common.{◌∙◌, ◌∷◌, ◌++◌, [], ap, sym}
use Rattle.run_model.specs.Versions.{versions_after}
use Rattle.rv_workspace.specs.Entering.{read_of}
use Rattle.rv_workspace.proofs.Noting.{versions-read}
use Rattle.rv_workspace.proofs.dropping.drop_one.Goals as goal

pub returns-clause-versions : goal.returns-clause-versions
returns-clause-versions c first counted =
    let s = c.args.session in
    let k = c.args.command in
    let entered = c.push_reserved.ensures.items ∙ ap (λ l. l ++ read_of s k ∷ []) c.in-Ok-reserve.ensures.items in
    counted ∙ sym (ap (versions_after first) entered ∙ versions-read first s k c.args.history.now.items)
