use Rattle.std.proofs.Common.{rules, arith, ◌≡◌, ◌∙◌, append_assoc, ap, ◌∷◌, ◌++◌, [], ℕ, List, sym}
use Rattle.std.proofs.lemmas.Grind.{common_steps}
use Rattle.std.specs.Vec.Iter.{into_iter_items}
use Rattle.test_diary.specs.Runs.{told_of}
use Rattle.test_diary.proofs.Lines.{joined_more, map_more}
use Rattle.test_diary.proofs.racing.join_all.Goals as goal

pub works-preserved : goal.works-preserved
works-preserved c =
    let i = c.works.invariant in
    let w = c.in-Some.work in
    let e = c.join_pass.ensures in
    let items : c.args.works.items ≡ c.works.yielded ++ w ∷ into_iter_items c.next.new.self = search rules in
    let told = c.push_reserved.ensures.items ∙ (ap (λ (l : List ℕ). l ++ told_of w ∷ []) i.3 ∙ sym (map_more told_of c.works.yielded w)) in (
      tt,
      tt,
      items ∙ sym (append_assoc c.works.yielded (w ∷ []) (into_iter_items c.next.new.self)),
      told,
      grind (arith, common_steps),
      grind (arith, common_steps),
      joined_more c.works.yielded w c.args.pass.now c.works.pass c.join_pass.new.pass i.6 e.joins e.begins e.other_begins,
    )
