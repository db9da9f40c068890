use Rattle.relview.proofs.Lonely.{alone_is_one_run, alone_is_one_answer}
use Rattle.relview.proofs.laws.alone_is_one_run.Goals as goal

pub returns-clause-run : goal.returns-clause-run
returns-clause-run c = alone_is_one_run

pub returns-clause-answer : goal.returns-clause-answer
returns-clause-answer c = alone_is_one_answer
