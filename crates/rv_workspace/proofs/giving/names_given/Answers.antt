use Rattle.std.proofs.Common.{◌∙◌, ◌∷◌, ◌++◌, [], ap, sym, arith}
use Rattle.rv_workspace.proofs.Noting.{names-take}
use Rattle.rv_workspace.proofs.giving.names_given.Goals as goal

pub list-preserved : goal.list-preserved
list-preserved c =
    let g = c.gift-item.result in
    let own = c.in_ok-copied.ensures in
    c.in_ok-push.ensures.items ∙ ap (λ n. c.list.given.items ++ n ∷ []) own ∙ ap (λ l. l ++ g.0 ∷ []) c.list.invariant ∙ sym (names-take c.args.list.now c.list.gift-index g (omega arith) c.gift-item.is)
