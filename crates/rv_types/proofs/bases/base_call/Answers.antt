use Rattle.std.proofs.Common.{◌∙◌, sym, ap}
use Rattle.lang_model.specs.Types.{Fits}
use Rattle.rv_types.proofs.Passing.{goes_last}
use Rattle.rv_types.proofs.Computing.{one_given, two_given, others_given}
use Rattle.rv_types.proofs.bases.base_call.Goals as goal

pub returns-then-given-eq1 : goal.returns-then-given-eq1
returns-then-given-eq1 c = goes_last _ _ _ _ (one_given c.args.at c.args.base c.args.given.now _ c.if-given-eq1.true) c.base_of_one.ensures

pub returns-then-given-eq2 : goal.returns-then-given-eq2
returns-then-given-eq2 c = goes_last _ _ _ _ (two_given c.args.at c.args.base c.args.given.now _ c.if-given-eq2.true) c.base_of_two.ensures

pub returns-else-given-eq2 : goal.returns-else-given-eq2
returns-else-given-eq2 c = others_given c.args.at c.args.base c.args.given.now c.if-given-eq1.false c.if-given-eq2.false ∙ ap Fits (sym c.typed.ensures)
