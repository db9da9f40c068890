use Rattle.std.proofs.Common.{◌+◌, ◌*◌, ap, arith}
use Rattle.lang_model.specs.Mean.{domain_made}
use Rattle.rv_eval.proofs.Domains.{limited_ends, limited_fits, whole_within, other_domain}
use Rattle.rv_eval.proofs.Costing.{wide_within}
use Rattle.rv_eval.proofs.domain_calls.domain_call.Goals as goal

pub returns-in-P1 : goal.returns-in-P1
returns-in-P1 g c =
    let w = g.E.Core.worker c.args.engine.now in
    let v = g.E.Core.worker c.first.new.self in
    let x = c.args.x in
    let y = c.args.y in
    let e = c.first.ensures in
    let given = c.as_whole.result in
    let o = whole_within {leaf = g.E.Core.least} w v g.E.Core.lean (x * y) (x) _ (x * y) _ c.first.result given c.as_whole.ensures e.value e.keeps e.room e.nothing e.cause in
    let tree = wide_within g.E.Core.least (x * y) x x x y (x * y) (omega arith) (omega arith) (omega arith) in
    record {
      ends = limited_ends w v g.E.Core.lean c.args.at _ _ _ _ _ _ tree (g.met.E.Core.row_limit c.first.new.self) (g.met.E.Core.col_limit c.first.new.self) (λ a b. a) _ given c.lift_domain.result (ap (λ z. domain_made c.args.at z x y) c.in-P1.is) c.lift_domain.ensures o;
      fits = limited_fits w v _ c.args.at _ _ _ _ _ given c.lift_domain.result c.lift_domain.ensures o;
    }

pub returns-in-P2 : goal.returns-in-P2
returns-in-P2 g c =
    let w = g.E.Core.worker c.args.engine.now in
    let v = g.E.Core.worker c.second.new.self in
    let x = c.args.x in
    let y = c.args.y in
    let e = c.second.ensures in
    let given = c.as_whole-in-P2.result in
    let o = whole_within {leaf = g.E.Core.least} w v g.E.Core.lean (x * y) (y) _ (x * y) _ c.second.result given c.as_whole-in-P2.ensures e.value e.keeps e.room e.nothing e.cause in
    let tree = wide_within g.E.Core.least (x * y) y y x y (x * y) (omega arith) (omega arith) (omega arith) in
    record {
      ends = limited_ends w v g.E.Core.lean c.args.at _ _ _ _ _ _ tree (g.met.E.Core.row_limit c.second.new.self) (g.met.E.Core.col_limit c.second.new.self) (λ a b. a) _ given c.lift_domain-in-P2.result (ap (λ z. domain_made c.args.at z x y) c.in-P2.is) c.lift_domain-in-P2.ensures o;
      fits = limited_fits w v _ c.args.at _ _ _ _ _ given c.lift_domain-in-P2.result c.lift_domain-in-P2.ensures o;
    }

pub returns-in-I1 : goal.returns-in-I1
returns-in-I1 g c =
    let w = g.E.Core.worker c.args.engine.now in
    let v = g.E.Core.worker c.inl.new.self in
    let x = c.args.x in
    let y = c.args.y in
    let e = c.inl.ensures in
    let given = c.as_whole-in-I1.result in
    let o = whole_within {leaf = g.E.Core.least} w v g.E.Core.lean (x) (x + y) _ (x + y) _ c.inl.result given c.as_whole-in-I1.ensures e.value e.keeps e.room e.nothing e.cause in
    let tree = wide_within g.E.Core.least x (x + y) (x + y) x y (x + y) (omega arith) (omega arith) (omega arith) in
    record {
      ends = limited_ends w v g.E.Core.lean c.args.at _ _ _ _ _ _ tree (g.met.E.Core.row_limit c.inl.new.self) (g.met.E.Core.col_limit c.inl.new.self) (λ a b. b) _ given c.lift_domain-in-I1.result (ap (λ z. domain_made c.args.at z x y) c.in-I1.is) c.lift_domain-in-I1.ensures o;
      fits = limited_fits w v _ c.args.at _ _ _ _ _ given c.lift_domain-in-I1.result c.lift_domain-in-I1.ensures o;
    }

pub returns-in_default : goal.returns-in_default
returns-in_default g c =
    let w = g.E.Core.worker c.args.engine.now in
    let v = g.E.Core.worker c.inr.new.self in
    let x = c.args.x in
    let y = c.args.y in
    let e = c.inr.ensures in
    let given = c.as_whole-in_default.result in
    let o = whole_within {leaf = g.E.Core.least} w v g.E.Core.lean (y) (x + y) _ (x + y) _ c.inr.result given c.as_whole-in_default.ensures e.value e.keeps e.room e.nothing e.cause in
    let tree = wide_within g.E.Core.least y (x + y) (x + y) x y (x + y) (omega arith) (omega arith) (omega arith) in
    record {
      ends = limited_ends w v g.E.Core.lean c.args.at _ _ _ _ _ _ tree (g.met.E.Core.row_limit c.inr.new.self) (g.met.E.Core.col_limit c.inr.new.self) (λ a b. b) _ given c.lift_domain-in_default.result (other_domain c.args.at c.args.base x y c.in_default.not-P1 c.in_default.not-P2 c.in_default.not-I1) c.lift_domain-in_default.ensures o;
      fits = limited_fits w v _ c.args.at _ _ _ _ _ given c.lift_domain-in_default.result c.lift_domain-in_default.ensures o;
    }
