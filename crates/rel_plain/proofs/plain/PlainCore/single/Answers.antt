use Rattle.std.proofs.Common.{◌∙◌, ◌++◌, ◌∷◌, [], ap}
use Rattle.rel_model.specs.Relation.{has, relation_of}
use Rattle.rel_plain.proofs.Operating.{gives_same, single_is}
use Rattle.rel_plain.proofs.Stored.{stored}
use Rattle.rel_plain.proofs.plain.PlainCore.single.Goals as goal

pub returns-clause-value : goal.returns-clause-value
returns-clause-value c =
    let m = c.args.shape.rows in
    let n = c.args.shape.cols in
    gives_same _ _ _ c.keep.result _ _ (ap (λ ps. relation_of m n (has (stored m n ps))) c.in_ok-push.ensures.items ∙ ap (λ ps. relation_of m n (has (stored m n (ps ++ (c.args.i, c.args.j) ∷ [])))) c.new-pairs.ensures.items ∙ single_is m n c.args.i c.args.j) c.keep.ensures.value
