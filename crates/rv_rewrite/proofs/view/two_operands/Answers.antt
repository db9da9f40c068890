use Rattle.std.proofs.Common.{◌≡◌, ◌≢◌, ◌∙◌, Some, length, sym, ap, arith}
use Rattle.lang_model.specs.Trees.{Tree, tree_of}
use Rattle.rv_rewrite.proofs.Parts.{two_at, not_two_at}
use Rattle.rv_rewrite.proofs.view.two_operands.Goals as goal

pub returns-in-len1 : goal.returns-in-len1
returns-in-len1 c =
    let one : length c.as_slice.result.now ≡ 1 = omega arith in
    two_at c.args.expr.now c.in-Chain.first c.in-Chain.rest c.in-Chain.is c.as_slice.result.now c.as_slice.ensures.value c.link-item.result one c.link-item.is
    ∙ ap (λ (e : Tree). Some (record { op = c.link-item.result.op; left = e; right = tree_of c.link-item.result.right })) (ap tree_of (sym c.deref.ensures))

pub returns-in-empty : goal.returns-in-empty
returns-in-empty c =
    let few : length c.as_slice.result.now ≢ 1 = omega arith in
    not_two_at c.args.expr.now c.in-Chain.first c.in-Chain.rest c.in-Chain.is c.as_slice.result.now c.as_slice.ensures.value few

pub returns-in-len2-up : goal.returns-in-len2-up
returns-in-len2-up c =
    let few : length c.as_slice.result.now ≢ 1 = omega arith in
    not_two_at c.args.expr.now c.in-Chain.first c.in-Chain.rest c.in-Chain.is c.as_slice.result.now c.as_slice.ensures.value few
