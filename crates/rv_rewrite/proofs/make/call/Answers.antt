use Rattle.rv_rewrite.proofs.Items.{tree_call}
use Rattle.rv_rewrite.proofs.make.call.Goals as goal

pub returns : goal.returns
returns c = tree_call c.args.at c.args.name c.args.args
