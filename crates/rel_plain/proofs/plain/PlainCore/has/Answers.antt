use Rattle.std.proofs.Common.{◌∙◌, ap, sym}
use Rattle.rel_model.specs.Relation.{has}
use Rattle.rel_model.proofs.Relations.{has-relation_of}
use Rattle.rel_plain.proofs.Stored.{stored}
use Rattle.rel_plain.proofs.plain.PlainCore.has.Goals as goal

pub returns-clause-value : goal.returns-clause-value
returns-clause-value c =
    c.contains.ensures
    ∙ sym (ap (λ r. has r c.args.i c.args.j) c.pairs_of.ensures.means
    ∙ has-relation_of c.args.r.rows c.args.r.cols (has (stored c.args.r.rows c.args.r.cols c.pairs_of.result.now)) c.args.i c.args.j c.requires.row c.requires.col)
