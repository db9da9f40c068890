use Rattle.relview.proofs.Naming.{nodes_low, nodes_high, workers_some, workers_few, no_relations}
use Rattle.relview.proofs.top.run_options.Goals as goal

pub run_generated-requires-clause-low : goal.run_generated-requires-clause-low
run_generated-requires-clause-low g c κs within = nodes_low c.requires.taken.0 c.args.options.now c.requires.taken.1

pub run_generated-requires-clause-high : goal.run_generated-requires-clause-high
run_generated-requires-clause-high g c κs within = nodes_high c.requires.taken.0 c.args.options.now c.requires.taken.1

pub run_generated-requires-clause-manned : goal.run_generated-requires-clause-manned
run_generated-requires-clause-manned g c κs within = workers_some c.requires.taken.0 c.args.options.now c.requires.taken.1

pub run_generated-requires-clause-crew : goal.run_generated-requires-clause-crew
run_generated-requires-clause-crew g c κs within = workers_few c.requires.taken.0 c.args.options.now c.requires.taken.1

pub run_generated-requires-clause-none : goal.run_generated-requires-clause-none
run_generated-requires-clause-none g c κs within = no_relations c.requires.taken.0 c.args.options.now c.in-Some.number c.requires.taken.1 c.in-Some.is
