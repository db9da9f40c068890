use Rattle.rel_compose.proofs.Reading.{stays}
use Rattle.rel_compose.proofs.join.both_dense.Goals as goal

pub sums_pay-requires-clause-a_stands : goal.sums_pay-requires-clause-a_stands
sums_pay-requires-clause-a_stands c = stays c.rows_pay.ensures.reads c.requires.y_stands

pub sums_pay-requires-clause-b_stands : goal.sums_pay-requires-clause-b_stands
sums_pay-requires-clause-b_stands c = stays c.rows_pay.ensures.reads c.requires.z_stands
