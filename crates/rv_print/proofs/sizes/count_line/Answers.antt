use Rattle.rel_model.specs.Worker.{set_of}
use Rattle.rv_print.proofs.sizes.count_line.Goals as goal

pub returns-clause-text : goal.returns-clause-text
returns-clause-text g c = c.in_ok-text.ensures (set_of (g.E.Core.worker c.args.engine.now) c.args.rel) c.in_ok-count.ensures.value
