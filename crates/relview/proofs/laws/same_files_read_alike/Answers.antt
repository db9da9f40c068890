use Rattle.relview.proofs.Readings.{same_words_ask_alike, same_files_read_alike}
use Rattle.relview.proofs.laws.same_files_read_alike.Goals as goal

pub returns-clause-words : goal.returns-clause-words
returns-clause-words c = same_words_ask_alike

pub returns-clause-files : goal.returns-clause-files
returns-clause-files c = same_files_read_alike
