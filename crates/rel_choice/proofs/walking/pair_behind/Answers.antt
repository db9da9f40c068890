use Rattle.rel_model.specs.Trees.{top_height}
use Rattle.rel_choice.proofs.walking.pair_behind.Goals as goal

pub side_of-side-requires : goal.side_of-side-requires
unfolding top_height
side_of-side-requires g c = g.met.Q.Quads.high_height c.args.q.now c.args.quad c.requires
