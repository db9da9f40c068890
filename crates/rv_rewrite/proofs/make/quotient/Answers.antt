use Rattle.std.proofs.Common.{◌∙◌, ap}
use Rattle.lang_model.specs.declared.syntax.Base.TheVariants.{Syq}
use Rattle.lang_model.specs.Trees.{BaseTree}
use Rattle.rv_rewrite.specs.Items.{args_of}
use Rattle.rv_rewrite.proofs.Items.{tree_base}
use Rattle.rv_rewrite.proofs.make.quotient.Goals as goal

pub returns : goal.returns
returns c = tree_base c.args.at Syq c.in_ok-args.args ∙ ap (λ z. BaseTree c.args.at Syq (args_of z)) c.in_ok-args.ensures
