-- Names of the quads of single cells.
use Rattle.std.specs.Prelude.{◌≢◌, ◌<◌, ◌+◌, ℕ, List, [], ◌∷◌, length, get_or}
use Rattle.rel_model.specs.Worker.{Worker, GivesQuad}
use Rattle.rel_domains.specs.Curve.{cells_at}

-- those that are not 0 name the quads, this many heights above the leaves, of the cells with their places
pub record KnowsSingles (w : Worker) (least depth : ℕ) (names : List ℕ) : Type 0 where
  pub named : (k : ℕ) → k < length names → get_or names k 0 ≢ 0 → GivesQuad w (least + depth)
      (cells_at least depth 0 (k ∷ [])) (record { height = least + depth; name = get_or names k 0 })
