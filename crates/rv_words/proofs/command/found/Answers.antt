use Rattle.rv_words.proofs.Finding.{finds, refuses}
use Rattle.rv_words.proofs.command.found.Goals as goal

pub returns-in-Ok-try_get_matches_from-clause-finds :
    goal.returns-in-Ok-try_get_matches_from-clause-finds
returns-in-Ok-try_get_matches_from-clause-finds c =
    finds _ c.args.words.now c.in-Ok-try_get_matches_from.matches c.in-Ok.ensures c.in-Ok-try_get_matches_from.ensures.matches c.in-Ok-try_get_matches_from.ensures.kinds

pub returns-in-Err-clause-usage : goal.returns-in-Err-clause-usage
returns-in-Err-clause-usage c = λ usage. refuses _ c.args.words.now c.in-Err.error c.in-Ok.ensures c.in-Err.ensures.kinds (c.cause_of.ensures usage)
