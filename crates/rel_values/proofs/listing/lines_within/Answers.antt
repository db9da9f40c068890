use Rattle.std.proofs.Common.{◌∙◌, ap}
use Rattle.rel_model.specs.Relation.{Relation}
use Rattle.rel_slices.specs.declared.thin.Value.TheVariants.{Lines}
use Rattle.rel_slices.proofs.Valuing.{value_same}
use Rattle.rel_values.proofs.listing.lines_within.Goals as goal

pub returns-else-len-most-clause-value : goal.returns-else-len-most-clause-value
returns-else-len-most-clause-value g c =
    let w = g.E.Core.worker in
    c.in-Ok-lines_pairs.ensures.value
    ∙ ap (λ (r : Relation). r.pairs) (value_same (w c.args.engine.now) (w c.lines_count.new.engine) (Lines c.args.s.now) c.lines_count.ensures.keeps c.requires)
