use Rattle.std.proofs.Common.{ℕ, ◌≡◌, true, sym, subst, get_or}
use Rattle.rel_model.specs.Trees.{stands}
use Rattle.rv_compact.specs.Walks.{Walked}
use Rattle.rv_compact.proofs.Reaching.{no_rel, root_stands, some_walked}
use Rattle.rv_compact.proofs.walk.reached_uses.Goals as goal

pub walk-requires-clause-standing : goal.walk-requires-clause-standing
walk-requires-clause-standing c =
    subst (λ (d : ℕ). stands c.args.words.now d (get_or c.args.rels.now c.rels.rel-index no_rel).root ≡ true) (sym c.depth_of_root.ensures)
    (root_stands c.args.words.now (get_or c.args.rels.now c.rels.rel-index no_rel) (c.requires c.rels.rel-index no_rel c.rels-test.true))

pub rels-preserved : goal.rels-preserved
rels-preserved c =
    some_walked c.args.words.now c.args.rels.now c.rels.rel-index no_rel c.rels.found.keys c.walk.new.found.keys c.rels-test.true c.rels.invariant
    (subst (λ (d : ℕ). Walked c.args.words.now d (get_or c.args.rels.now c.rels.rel-index no_rel).root c.rels.found.keys c.walk.new.found.keys) c.depth_of_root.ensures c.in_ok-walk.ensures)
