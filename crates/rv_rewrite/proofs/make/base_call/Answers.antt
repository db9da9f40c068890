use Rattle.rv_rewrite.proofs.Items.{tree_base}
use Rattle.rv_rewrite.proofs.make.base_call.Goals as goal

pub returns : goal.returns
returns c = tree_base c.args.at c.args.base c.args.args
