use Rattle.std.proofs.Common.{◌∙◌, ◌&&◌, sym, ap}
use Rattle.lang_model.specs.declared.syntax.Base.TheVariants.{Syq}
use Rattle.lang_model.specs.Trees.{BaseTree, MoreTrees, NoTree, nowhere, tree_of}
use Rattle.lang_model.specs.Rewriting.{same_tree, same_trees}
use Rattle.rv_rewrite.specs.Items.{args_of}
use Rattle.rv_rewrite.proofs.Items.{tree_base}
use Rattle.rv_rewrite.proofs.results.is_quotient_of.Goals as goal

pub returns-else-not-same_base : goal.returns-else-not-same_base
returns-else-not-same_base c =
    let both = MoreTrees (tree_of c.args.first.now) (MoreTrees (tree_of c.args.second.now) NoTree) in
    let args = c.in-Base.args in
    c.are_two.ensures ∙ ap (λ z. same_trees both (args_of z)) c.as_slice.ensures.value
    ∙ sym (ap (λ e. same_tree (BaseTree nowhere Syq both) (tree_of e)) c.in-Base.is
    ∙ ap (same_tree (BaseTree nowhere Syq both)) (tree_base c.in-Base.at c.in-Base.base args)
    ∙ ap (λ b. b && same_trees both (args_of args.items)) (sym c.same_base.ensures ∙ c.if-not-same_base.false))
