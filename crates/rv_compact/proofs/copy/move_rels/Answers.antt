use Rattle.std.proofs.Common.{ℕ, refl, subst, get_or}
use Rattle.rv_compact.specs.Copies.{IsNamed}
use Rattle.rv_compact.proofs.Reaching.{no_rel}
use Rattle.rv_compact.proofs.Copying.{named_more}
use Rattle.rv_compact.proofs.copy.move_rels.Goals as goal

pub rels-preserved : goal.rels-preserved
rels-preserved c =
    named_more c.args.uses.now.keys c.args.names.now c.args.rels.now c.rels.moved.items c.push.new.self.items c.rels.rel-index no_rel _ c.rels.invariant.0 c.rels.invariant.1 c.rels-test.true c.in_ok-push.ensures.items refl refl
    (subst (λ (d : ℕ). IsNamed c.args.uses.now.keys c.args.names.now d (get_or c.args.rels.now c.rels.rel-index no_rel).root c.new_name-root.result) c.depth_of_root.ensures c.new_name-root.ensures)
