use Rattle.std.proofs.Common.{◌≡◌, ◌∙◌, ◌+◌, ◌*◌, ◌<◌, ◌≤◌, ℕ, rules, sym, ap, subst, arith}
use Rattle.lang_model.specs.Trees.{Tree, MinusTree, TurnedTree, tree_of}
use Rattle.lang_model.specs.Rewriting.{least_rule, weight}
use Rattle.rv_rewrite.specs.Running.{Settles, Steps, ComesNearer}
use Rattle.rv_rewrite.proofs.Items.{tree_minus, tree_turned}
use Rattle.rv_rewrite.proofs.Steady.{no_result}
use Rattle.rv_rewrite.proofs.Settled.{settled, settled_after, follows_after, lighter_after, nearer_minus, nearer_turned}
use Rattle.rv_rewrite.proofs.settle.+settle.Goals as goal

pub settle-settle_operand-requires : goal.settle-settle_operand-requires
settle-settle_operand-requires t c =
    let node = tree_of c.args.node in
    let after = tree_of c.in_ok-after-in-Some.after in
    let step : Steps c.args.kept c.args.steps.now.items c.take_step.new.steps.items c.in-Some.rule node after = c.in_ok-after-in-Some.ensures in
    let lighter : weight after < weight node = lighter_after node c.in-Some.rule after c.requires.calm c.requires.still step.least in
    let falls : 2 * weight after + 1 < t = omega (arith, lighter) in
    (falls, follows_after node c.in-Some.rule after c.requires.calm c.requires.still step.least)

pub settle-settle-requires : goal.settle-settle-requires
settle-settle-requires t c =
    let node = tree_of c.args.node in
    let after = tree_of c.in_ok-after-in-Some.after in
    let step : Steps c.args.kept c.args.steps.now.items c.take_step.new.steps.items c.in-Some.rule node after = c.in_ok-after-in-Some.ensures in
    let lighter : weight after < weight node = lighter_after node c.in-Some.rule after c.requires.calm c.requires.still step.least in
    let nearer : ComesNearer c.args.kept c.take_step.new.steps.items c.settle_operand.new.steps.items after (tree_of c.in_ok-nearer-in-Some.nearer) = c.in_ok-nearer-in-Some.ensures in
    let no_heavier : weight (tree_of c.in_ok-nearer-in-Some.nearer) ≤ weight after = nearer.lighter in
    let falls : 2 * weight (tree_of c.in_ok-nearer-in-Some.nearer) < t = omega (arith, lighter, no_heavier) in
    (falls, (nearer.calm, (nearer.still, λ e. nearer.distinct)))

pub settle-returns-in_ok-last-in-Some : goal.settle-returns-in_ok-last-in-Some
settle-returns-in_ok-last-in-Some t c =
    settled_after c.args.kept c.args.steps.now.items c.take_step.new.steps.items c.settle_operand.new.steps.items c.settle.new.steps.items
    (tree_of c.args.node) c.in-Some.rule (tree_of c.in_ok-after-in-Some.after) (tree_of c.in_ok-nearer-in-Some.nearer) (tree_of c.in_ok-last-in-Some.last)
    c.requires.calm c.requires.still c.in_ok-after-in-Some.ensures c.in_ok-nearer-in-Some.ensures c.in_ok-last-in-Some.ensures

pub settle-returns-in-None : goal.settle-returns-in-None
settle-returns-in-None t c =
    let node = tree_of c.args.node in
    settled c.args.kept c.args.steps.now.items node c.requires.calm c.requires.still (no_result (λ (x : ℕ × Tree). x.0) (least_rule node) (sym c.least_rule.ensures ∙ c.in-None.is))

pub settle_operand-returns-in_ok-nearer-in-Minus : goal.settle_operand-returns-in_ok-nearer-in-Minus
settle_operand-returns-in_ok-nearer-in-Minus t c =
    let at = c.in-Minus.at in
    let of = tree_of (c.in-Minus.of).value in
    let old = c.args.steps.now.items in
    let new = c.settle.new.steps.items in
    let operand = tree_of c.in_ok-operand-in-Minus.operand in
    let shape : tree_of c.args.node ≡ MinusTree at of = ap tree_of c.in-Minus.is ∙ tree_minus at c.in-Minus.of in
    let same : c.take-operand.result ≡ (c.in-Minus.of).value = search rules in
    let settles = subst (λ z. Settles c.args.kept old new (tree_of z) operand) same c.in_ok-operand-in-Minus.ensures in
    subst (λ z. ComesNearer c.args.kept old new z (tree_of c.in_ok-nearer-in-Minus.nearer)) (sym shape)
    (subst (λ z. ComesNearer c.args.kept old new (MinusTree at of) z) (sym (c.in_ok-nearer-in-Minus.ensures ∙ ap (λ p. MinusTree p operand) c.in-Minus.at-is))
    (nearer_minus c.args.kept old new at of operand settles))

pub settle_operand-returns-in_ok-nearer-in-Turned : goal.settle_operand-returns-in_ok-nearer-in-Turned
settle_operand-returns-in_ok-nearer-in-Turned t c =
    let at = c.in-Turned.at in
    let times = c.in-Turned.times in
    let of = tree_of (c.in-Turned.of).value in
    let old = c.args.steps.now.items in
    let new = c.settle-in-Turned.new.steps.items in
    let operand = tree_of c.in_ok-operand-in-Turned.operand in
    let shape : tree_of c.args.node ≡ TurnedTree at of times = ap tree_of c.in-Turned.is ∙ tree_turned at c.in-Turned.of times in
    let same : c.take-operand-in-Turned.result ≡ (c.in-Turned.of).value = search rules in
    let settles = subst (λ z. Settles c.args.kept old new (tree_of z) operand) same c.in_ok-operand-in-Turned.ensures in
    subst (λ z. ComesNearer c.args.kept old new z (tree_of c.in_ok-nearer-in-Turned.nearer)) (sym shape)
    (subst (λ z. ComesNearer c.args.kept old new (TurnedTree at of times) z) (sym (c.in_ok-nearer-in-Turned.ensures ∙ (λ i. TurnedTree (c.in-Turned.at-is i) operand (c.in-Turned.times-is i))))
    (nearer_turned c.args.kept old new at times of operand settles))
