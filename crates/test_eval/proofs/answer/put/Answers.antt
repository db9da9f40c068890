use Rattle.test_eval.proofs.Standing.{names_pushed}
use Rattle.test_eval.proofs.answer.put.Goals as goal

pub returns : goal.returns
returns g c = names_pushed (g.E.Core.worker c.args.engine.now) c.args.names.now.items c.push.new.names.items c.args.name.now c.args.rel c.push.ensures c.requires.names c.requires.rel
