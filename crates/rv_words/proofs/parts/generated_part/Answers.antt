use Rattle.std.proofs.Common.{sym}
use Rattle.rv_words.specs.Shown.{texts}
use Rattle.rv_words.proofs.Sorting.{no_file, no_behind}
use Rattle.rv_words.proofs.parts.generated_part.Goals as goal

pub returns-then-stands-clause-usage : goal.returns-then-stands-clause-usage
returns-then-stands-clause-usage c = λ usage. no_file _ _ (sym c.if-stands.ensures)

pub returns-then-is_some-clause-usage : goal.returns-then-is_some-clause-usage
returns-then-is_some-clause-usage c = λ usage. no_behind _ (λ words. texts words.now) c.args.later (sym c.if-is_some.ensures)
