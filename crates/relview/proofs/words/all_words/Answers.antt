use Rattle.std.proofs.Common.{◌++◌, ◌∙◌, ◌∷◌, [], sym, ap, append_assoc}
use Rattle.std.specs.Vec.Iter.{into_iter_items}
use Rattle.relview.proofs.words.all_words.Goals as goal

pub each-preserved : goal.each-preserved
each-preserved c =
    let later = into_iter_items c.next.new.self in
    c.each.invariant ∙ (ap (λ words. c.each.words.items ++ words) c.in-Some.ensures.items ∙ (sym (append_assoc c.each.words.items (c.in-Some.word ∷ []) later) ∙ ap (λ words. words ++ later) (sym c.in_ok-push.ensures.items)))
