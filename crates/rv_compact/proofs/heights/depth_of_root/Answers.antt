use Rattle.std.proofs.Common.{◌-◌, ◌*◌, ◌∙◌, ℕ, sym, ap}
use Rattle.rel_model.specs.Trees.{bottom_height}
use Rattle.rv_compact.proofs.Depths.{twice-double}
use Rattle.rv_compact.proofs.heights.depth_of_root.Goals as goal

pub returns : goal.returns
unfolding bottom_height
returns c = ap (λ (h : ℕ). (h - 3) * 2) c.height_of_tree.ensures.value ∙ sym (twice-double _)
