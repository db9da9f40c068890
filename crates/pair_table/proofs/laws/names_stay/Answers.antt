use Rattle.rel_model.proofs.TreeLaws.{kept_stands, kept_cells}
use Rattle.pair_table.proofs.laws.names_stay.Goals as goal

pub returns : goal.returns
returns c old new x d e = (x.kept, λ depth name s. (kept_stands old new x depth name s, kept_cells old new x d.none_at_0 e.none_at_0 depth name s))
