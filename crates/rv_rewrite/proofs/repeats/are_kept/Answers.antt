use Rattle.std.proofs.Common.{◌∙◌, ◌&&◌, ◌+◌, ◌∷◌, [], drop, take, sym, ap}
use Rattle.lang_model.specs.Trees.{tree_of}
use Rattle.lang_model.specs.Rewriting.{same_operator, same_tree, same_branches}
use Rattle.rv_rewrite.specs.Items.{links_of}
use Rattle.rv_rewrite.specs.Repeated.{without_earlier, operands_behind}
use Rattle.rv_rewrite.proofs.Equal.{no_links}
use Rattle.rv_rewrite.proofs.Earlier.{earlier_keep, earlier_skip, no_more, one_more, and_no, no_links_left, behind_first}
use Rattle.rv_rewrite.proofs.repeats.are_kept.Goals.{then-not-is_among+in-len1-up+else-not-same_operator+else-not-same, else-not-is_among}
use Rattle.rv_rewrite.proofs.repeats.are_kept.Goals as goal

pub returns-in_default : goal.returns-in_default
returns-in_default c =
    let x = c.index-links-i.result in
    let k = earlier_keep (tree_of c.args.first.now) c.args.links.now c.each.i x c.each-test.true c.index-links-i.is (sym c.is_among.ensures ∙ c.if-not-is_among.true) in
    sym (c.each.invariant ∙ ap (λ z. same_branches z (links_of c.each.others.now)) k
    ∙ no_more x.at x.op (tree_of x.right) _ c.each.others.now c.in_default.len_below)

pub returns-then-not-same_operator : goal.returns-then-not-same_operator
returns-then-not-same_operator c =
    let x = c.index-links-i.result in
    let y = c.other-item.result in
    let k = earlier_keep (tree_of c.args.first.now) c.args.links.now c.each.i x c.each-test.true c.index-links-i.is (sym c.is_among.ensures ∙ c.if-not-is_among.true) in
    let rest = without_earlier (operands_behind (tree_of c.args.first.now ∷ []) (take (c.each.i + 1) c.args.links.now)) (links_of (drop (c.each.i + 1) c.args.links.now)) in
    sym (c.each.invariant ∙ ap (λ z. same_branches z (links_of c.each.others.now)) k
    ∙ one_more x.at x.op (tree_of x.right) _ c.each.others.now y c.in-len1-up.len_at_least c.other-item.is
    ∙ ap (λ b. b && (same_tree (tree_of x.right) (tree_of y.right) && same_branches rest (links_of (drop 1 c.each.others.now)))) (sym c.same_operator.ensures ∙ c.if-not-same_operator.true))

pub returns-then-not-same : goal.returns-then-not-same
returns-then-not-same c =
    let x = c.index-links-i.result in
    let y = c.other-item.result in
    let k = earlier_keep (tree_of c.args.first.now) c.args.links.now c.each.i x c.each-test.true c.index-links-i.is (sym c.is_among.ensures ∙ c.if-not-is_among.true) in
    let rest = without_earlier (operands_behind (tree_of c.args.first.now ∷ []) (take (c.each.i + 1) c.args.links.now)) (links_of (drop (c.each.i + 1) c.args.links.now)) in
    sym (c.each.invariant ∙ ap (λ z. same_branches z (links_of c.each.others.now)) k
    ∙ one_more x.at x.op (tree_of x.right) _ c.each.others.now y c.in-len1-up.len_at_least c.other-item.is
    ∙ ap (λ b. same_operator x.op y.op && (b && same_branches rest (links_of (drop 1 c.each.others.now)))) (sym c.same.ensures ∙ c.if-not-same.true) ∙ and_no (same_operator x.op y.op))

pub each-preserved : goal.each-preserved
each-preserved c =
    let x = c.index-links-i.result in
    let rest = without_earlier (operands_behind (tree_of c.args.first.now ∷ []) (take (c.each.i + 1) c.args.links.now)) (links_of (drop (c.each.i + 1) c.args.links.now)) in
    elim c.if-not-is_among.branch [
      | then-not-is_among+in-len1-up+else-not-same_operator+else-not-same w ↦ (
          let y = w.other-item.result in
          let among = sym c.is_among.ensures ∙ (w.if-not-is_among).true in
          let k = earlier_keep (tree_of c.args.first.now) c.args.links.now c.each.i x c.each-test.true c.index-links-i.is among in
          let left = links_of (drop 1 c.each.others.now) in
          c.each.invariant ∙ ap (λ z. same_branches z (links_of c.each.others.now)) k
          ∙ one_more x.at x.op (tree_of x.right) rest c.each.others.now y (w.in-len1-up).len_at_least w.other-item.is
          ∙ ap (λ b. b && (same_tree (tree_of x.right) (tree_of y.right) && same_branches rest left)) (sym (w.same_operator).ensures ∙ (w.if-not-same_operator).false)
          ∙ ap (λ b. b && same_branches rest left) (sym (w.same).ensures ∙ (w.if-not-same).false)
          ∙ ap (λ z. same_branches rest (links_of z)) (sym (behind_first c.each.others.now))
          ∙ ap (λ z. same_branches rest (links_of z.now)) (sym w.others-is))
      | else-not-is_among w ↦ (
          let among = sym c.is_among.ensures ∙ w.if-not-is_among.false in
          let k = earlier_skip (tree_of c.args.first.now) c.args.links.now c.each.i x c.each-test.true c.index-links-i.is among in
          c.each.invariant ∙ ap (λ z. same_branches z (links_of c.each.others.now)) k
          ∙ ap (λ z. same_branches (without_earlier (operands_behind (tree_of c.args.first.now ∷ []) (take (c.each.i + 1) c.args.links.now)) (links_of (drop (c.each.i + 1) c.args.links.now))) (links_of z.now)) (sym w.others-is))
    ]

pub returns : goal.returns
returns c =
    c.is_empty.ensures ∙ no_links c.each.others.now
    ∙ sym (c.each.invariant ∙ ap (λ z. same_branches z (links_of c.each.others.now))
    (no_links_left c.args.links.now c.each.i _ c.each-test.false))
