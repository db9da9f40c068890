use Rattle.std.proofs.Common.{◌∙◌, Some, refl, sym, ap}
use Rattle.lang_model.specs.Trees.{tree_of}
use Rattle.rv_rewrite.proofs.Settled.{notes_one}
use Rattle.rv_rewrite.proofs.settle.take_step.Goals as goal

pub returns : goal.returns
returns c =
    notes_one c.args.kept c.args.steps.now.items c.push.new.self.items c.args.rule c.args.node c.in_ok-after-2.after
    (tree_of c.args.node) (tree_of c.in_ok-last.last) c.in_ok-push.ensures.items refl (sym c.in_ok-last.ensures)
    (c.in_ok-after-2.ensures ∙ ap (λ z. Some (c.args.rule, z)) (sym c.in_ok-last.ensures))
