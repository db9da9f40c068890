use Rattle.std.proofs.Common.{◌∙◌, ap}
use Rattle.rel_model.specs.Relation.{has, relation_of}
use Rattle.rel_plain.proofs.Operating.{gives_same, empty_is}
use Rattle.rel_plain.proofs.Stored.{stored}
use Rattle.rel_plain.proofs.plain.PlainCore.empty.Goals as goal

pub returns-clause-value : goal.returns-clause-value
returns-clause-value c =
    gives_same _ _ _ c.keep.result _ _ (ap (λ ps. relation_of c.args.shape.rows c.args.shape.cols (has (stored c.args.shape.rows c.args.shape.cols ps))) c.new.ensures.items ∙ empty_is c.args.shape.rows c.args.shape.cols) c.keep.ensures.value
