-- Quadrants as a worker keeps them: the four quarters of a quad, and sets confined to given rows and columns.
use Rattle.std.specs.Prelude.{◌≡◌, ◌<◌, ◌+◌, ◌^◌, ℕ, true}
use Rattle.rel_model.specs.declared.Quad.{Quad}
use Rattle.rel_model.specs.declared.Quarters.{Quarters}
use Rattle.rel_model.specs.Cells.{Cells}
use Rattle.rel_model.specs.Trees.{quartered}
use Rattle.rel_model.specs.Worker.{Worker, HasQuad, quad_set}

-- a set has no cell outside the first rows and columns
pub record LiesWithin (rows cols : ℕ) (f : Cells) : Type 0 where
  pub row : (i j : ℕ) → f i j ≡ true → i < rows
  pub col : (i j : ℕ) → f i j ≡ true → j < cols

-- the quarters of a quad, each of half its side: north-west, north-east, south-west and south-east
pub record GivesQuarters (old new : Worker) (quad : Quad) (four : Quarters) : Type 0 where
  pub nw : HasQuad new four.nw
  pub ne : HasQuad new four.ne
  pub sw : HasQuad new four.sw
  pub se : HasQuad new four.se
  pub nw_height : four.nw.height + 1 ≡ quad.height
  pub ne_height : four.ne.height + 1 ≡ quad.height
  pub sw_height : four.sw.height + 1 ≡ quad.height
  pub se_height : four.se.height + 1 ≡ quad.height
  pub means : quad_set old quad ≡ quartered (2 ^ four.nw.height) (quad_set new four.nw) (quad_set new four.ne)
      (quad_set new four.sw) (quad_set new four.se)
