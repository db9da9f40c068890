use Rattle.std.proofs.Common.{◌≡◌, ◌∙◌, ◌++◌, ◌∷◌, [], append_assoc, ap, sym, arith, rules, List}
use Rattle.std.proofs.lemmas.Grind.{common_steps}
use Rattle.std.specs.Vec.Iter.{into_iter_items}
use Rattle.run_model.specs.declared.event.Event.{Event}
use Rattle.rv_workspace.specs.Entering.{assign_of}
use Rattle.rv_workspace.proofs.Replaying.{assigns_more}
use Rattle.rv_workspace.proofs.giving.enter_all.Goals as goal

pub gifts-preserved : goal.gifts-preserved
gifts-preserved c =
    let i = c.gifts.invariant in
    let g = c.in-Some.gift in
    let items : c.args.list.items ≡ c.gifts.yielded ++ g ∷ into_iter_items c.next.new.self = search rules in (
      tt,
      tt,
      items ∙ sym (append_assoc c.gifts.yielded (g ∷ []) (into_iter_items c.next.new.self)),
      c.push_reserved.ensures.items ∙ ap (λ (es : List Event). es ++ assign_of c.args.session c.args.command g ∷ []) i.3
          ∙ assigns_more c.args.session c.args.command c.args.history.now.items c.gifts.yielded g,
      grind (arith, common_steps),
      grind (arith, common_steps),
    )
