use Rattle.rv_spell.proofs.OneScript.{one_script_law}
use Rattle.rv_reading.proofs.Alike.{texts_have_one_reading, texts_are_one_input, every_reading_runs}
use Rattle.rv_reading.proofs.laws.every_reading_runs.Goals as goal

pub returns-clause-trees : goal.returns-clause-trees
returns-clause-trees c = texts_have_one_reading one_script_law

pub returns-clause-inputs : goal.returns-clause-inputs
returns-clause-inputs c = texts_are_one_input one_script_law

pub returns-clause-runs : goal.returns-clause-runs
returns-clause-runs c = every_reading_runs one_script_law
