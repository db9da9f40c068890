use Rattle.rel_model.proofs.NamesStand.{pair_stands, block_stands}
use Rattle.pair_table.proofs.laws.pairs_stand.Goals as goal

pub returns : goal.returns
returns c v = (λ left right name depth f g l h e s t. pair_stands v left right name depth f g l h e s t, λ bits name h e. block_stands v bits name h e)
