use Rattle.std.proofs.Common.{◌∙◌, ap, subst}
use Rattle.rel_model.specs.Relation.{relation_of}
use Rattle.rel_model.specs.Worker.{Gives}
use Rattle.rel_model.specs.Listed.{is_among}
use Rattle.rv_sessions.proofs.ListedPairs.{relation_listed, listed_fits}
use Rattle.rv_sessions.proofs.listing.listed.Goals as goal

pub returns-in-Ok-clause-value : goal.returns-in-Ok-clause-value
returns-in-Ok-clause-value g c =
    let m = c.args.shape.rows in
    let n = c.args.shape.cols in
    subst (λ r. Gives (g.E.Core.worker c.from_pairs.new.self) m n r c.in-Ok.rel)
    (ap (λ ps. relation_of m n (is_among ps)) c.as_slice.ensures.value ∙ relation_listed m n c.in_ok-pairs.pairs.items c.args.list.now c.in_ok-pairs.ensures.pairs) c.in-Ok.ensures.value

pub returns-in-Ok-clause-room : goal.returns-in-Ok-clause-room
returns-in-Ok-clause-room g c =
    listed_fits g.E.Core.least _ c.args.shape.rows c.args.shape.cols c.as_slice.result.now c.in_ok-pairs.pairs.items (g.E.Core.worker c.args.engine.now) (g.E.Core.worker c.from_pairs.new.self) c.as_slice.ensures.value c.in_ok-pairs.ensures.count c.in-Ok.ensures.few

pub returns-clause-room : goal.returns-clause-room
returns-clause-room g c =
    listed_fits g.E.Core.least _ c.args.shape.rows c.args.shape.cols c.as_slice.result.now c.in_ok-pairs.pairs.items (g.E.Core.worker c.args.engine.now) (g.E.Core.worker c.from_pairs.new.self) c.as_slice.ensures.value c.in_ok-pairs.ensures.count c.in-Err.ensures.few
