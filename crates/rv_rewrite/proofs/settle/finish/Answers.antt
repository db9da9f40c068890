use Rattle.std.proofs.Common.{◌∙◌, sym}
use Rattle.lang_model.specs.Trees.{tree_of}
use Rattle.rv_rewrite.proofs.Settled.{finished_restless}
use Rattle.rv_rewrite.proofs.settle.finish.Goals as goal

pub returns-then-not-calm : goal.returns-then-not-calm
returns-then-not-calm c = finished_restless c.args.kept c.args.steps.now.items (tree_of c.args.node) (sym c.requires.calm ∙ c.if-not-calm.true) c.requires.still
