use Rattle.std.proofs.Common.{◌∙◌}
use Rattle.rel_plain.proofs.Searching.{searched}
use Rattle.rel_plain.proofs.search.contains.Goals as goal

pub returns : goal.returns
returns c = c.is_ok.ensures.value ∙ searched c.args.pairs.now (c.args.i, c.args.j) c.requires c.binary_search.result c.binary_search.ensures.bound c.binary_search.ensures.position
