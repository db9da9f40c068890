use Rattle.relview.proofs.Readings.{every_reading_has_the_run, every_input_has_the_run}
use Rattle.relview.proofs.laws.every_reading_has_the_run.Goals as goal

pub returns-clause-readings : goal.returns-clause-readings
returns-clause-readings c = every_reading_has_the_run

pub returns-clause-inputs : goal.returns-clause-inputs
returns-clause-inputs c = every_input_has_the_run
