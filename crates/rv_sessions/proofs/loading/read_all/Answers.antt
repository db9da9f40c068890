use Rattle.std.proofs.Common.{sym, subst}
use Rattle.rel_model.specs.Worker.{MakesAtMost}
use Rattle.rv_sessions.proofs.Loads.{all_read, all_cost}
use Rattle.rv_sessions.proofs.loading.read_all.Goals as goal

pub returns : goal.returns
returns g c =
    let a = c.args in
    let w = g.E.Core.worker in
    let r = c.read_k2_all in
    record {
      read = all_read (w a.engine.now) (w r.new.engine) a.bytes.now r.result r.ensures.answer;
      keeps = r.ensures.keeps;
      room = λ file. subst (λ n. MakesAtMost n (w a.engine.now) (w r.new.engine)) (sym (all_cost g.E.Core.least a.bytes.now file)) r.ensures.room;
    }
