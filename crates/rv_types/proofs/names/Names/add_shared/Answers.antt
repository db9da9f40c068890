use Rattle.std.proofs.Common.{◌||◌, ◌&&◌, ◌∙◌, ℕ, List, [], Bor, take, get_or, sym, ap}
use Rattle.lang_model.specs.Checking.{among}
use Rattle.rv_types.proofs.Sets.{texts, among-took, shared-has, shared-lacks}
use Rattle.rv_types.proofs.names.Names.add_shared.Goals as goal
use Rattle.rv_types.proofs.names.Names.add_shared.Goals.{then-has+in_ok-add, else-has}

pub each-preserved : goal.each-preserved
each-preserved c n =
    let keys = c.as_slice-name-items.result.now in
    let k = c.each.name-index in
    let none : Bor (List ℕ) = record { ref_ptr = (0, 0); now = [] } in
    let x = (get_or keys k none).now in
    let old = among c.args.self.now n in
    let second = c.args.second.now in
    let seen = among (texts (take k keys)) n in
    let took = ap (λ t. old || (t && among second n)) (sym (among-took keys k none n c.each-test.true)) in
    elim c.if-has.branch [
      | then-has+in_ok-add w ↦
          ap (λ v. among v n) w.self-is ∙ w.in_ok-add.ensures.names n
          ∙ shared-has x n second old seen (among c.each.self n) w.if-has.ensures (c.each.invariant n) ∙ took
      | else-has w ↦
          ap (λ v. among v n) w.self-is ∙ shared-lacks x n second old seen (among c.each.self n) w.if-has.ensures (c.each.invariant n) ∙ took
    ]
