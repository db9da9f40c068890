use Rattle.rel_slices.proofs.Costs.{pieces_within, complement_within, transpose_within}
use Rattle.rel_slices.proofs.laws.costs_of_operators.Goals as goal

pub returns-clause-pieces : goal.returns-clause-pieces
returns-clause-pieces c = pieces_within

pub returns-clause-complement : goal.returns-clause-complement
returns-clause-complement c = complement_within

pub returns-clause-transpose : goal.returns-clause-transpose
returns-clause-transpose c = transpose_within
