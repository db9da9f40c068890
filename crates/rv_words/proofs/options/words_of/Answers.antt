use Rattle.std.proofs.Common.{◌∙◌, ap}
use Rattle.std.proofs.lemmas.Result.{IfErr-weaker}
use Rattle.rv_words.specs.Said.{said_of}
use Rattle.rv_words.proofs.Finding.{said_found}
use Rattle.rv_words.proofs.options.words_of.Goals as goal

pub returns-in-Ok-clause-usage : goal.returns-in-Ok-clause-usage
returns-in-Ok-clause-usage c = IfErr-weaker c.options_of.result _ _
    (λ error none usage. ap said_of c.first_part.ensures ∙ said_found _ c.in-Ok.matches _ c.in-Ok.ensures.finds ∙ none usage) c.options_of.ensures.usage
