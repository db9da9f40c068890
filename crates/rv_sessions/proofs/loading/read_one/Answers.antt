use Rattle.std.proofs.Common.{◌∙◌, sym, subst}
use Rattle.rel_model.specs.Worker.{MakesAtMost}
use Rattle.rv_sessions.proofs.Loads.{several_read, several_cost, single_read, single_cost}
use Rattle.rv_sessions.proofs.loading.read_one.Goals as goal

pub returns-then-begins_shared : goal.returns-then-begins_shared
returns-then-begins_shared g c =
    let a = c.args in
    let w = g.E.Core.worker in
    let r = c.read_k2_named in
    let several = sym c.begins_shared.ensures ∙ c.if-begins_shared.true in
    record {
      read = several_read a.name.now a.bytes.now several (w a.engine.now) (w r.new.engine) r.result r.ensures.answer;
      keeps = r.ensures.keeps;
      room = λ file. subst (λ n. MakesAtMost n (w a.engine.now) (w r.new.engine)) (sym (several_cost a.name.now a.bytes.now several g.E.Core.least file)) r.ensures.room;
    }

pub returns : goal.returns
returns g c =
    let a = c.args in
    let w = g.E.Core.worker in
    let r = c.read_k2 in
    let one = sym c.begins_shared.ensures ∙ c.if-begins_shared.false in
    record {
      read = single_read a.name.now a.bytes.now one (w a.engine.now) (w r.new.engine) r.result r.ensures.answer;
      keeps = r.ensures.keeps;
      room = λ file. subst (λ n. MakesAtMost n (w a.engine.now) (w r.new.engine)) (sym (single_cost a.name.now a.bytes.now one g.E.Core.least file)) r.ensures.room;
    }
