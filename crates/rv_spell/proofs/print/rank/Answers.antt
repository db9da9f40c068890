use Rattle.std.proofs.Common.{◌∙◌, sym, ap}
use Rattle.lang_model.specs.Printing.{rank}
use Rattle.rv_spell.specs.Printed.{rank_of_links}
use Rattle.rv_spell.proofs.Printed.{rank_chain}
use Rattle.rv_spell.proofs.print.rank.Goals as goal

pub returns-in-Chain : goal.returns-in-Chain
returns-in-Chain c = c.links_rank.ensures ∙ ap rank_of_links c.as_slice.ensures.value ∙ sym (ap rank c.in-Chain.is ∙ rank_chain c.in-Chain.first c.in-Chain.rest)
