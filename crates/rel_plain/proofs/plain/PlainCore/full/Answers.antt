use Rattle.std.proofs.Common.{◌∙◌, ap}
use Rattle.rel_model.specs.Relation.{has, relation_of}
use Rattle.rel_plain.proofs.Operating.{gives_same}
use Rattle.rel_plain.proofs.Stored.{stored}
use Rattle.rel_plain.proofs.Filling.{full_is, IsKept-full}
use Rattle.rel_plain.proofs.plain.PlainCore.full.Goals as goal

pub keep-requires : goal.keep-requires
keep-requires c = rw c.in_ok-pairs.ensures (IsKept-full c.args.shape.rows c.args.shape.cols c.requires.row_limit c.requires.col_limit)

pub returns-clause-value : goal.returns-clause-value
returns-clause-value c =
    gives_same _ _ _ c.keep.result _ _ (ap (λ ps. relation_of c.args.shape.rows c.args.shape.cols (has (stored c.args.shape.rows c.args.shape.cols ps))) c.in_ok-pairs.ensures ∙ full_is c.args.shape.rows c.args.shape.cols) c.keep.ensures.value
