-- Lists of names of one height: how they are expanded, and how they are made.
use Rattle.std.specs.Prelude.{◌≡◌, ◌<◌, ◌+◌, ◌-◌, ◌*◌, ℕ, List, Bool, Result, slice_index}
use Rattle.rel_model.specs.declared.Quad.{Quad}
use Rattle.rel_model.specs.Cells.{Cells}
use Rattle.rel_model.specs.Trees.{quartered}
use Rattle.rel_model.specs.Equations.{side_of}
use Rattle.rel_model.specs.Quads.{Keeper, QuadStands, IsQuad, quad_cells}
use Rattle.quad_nodes.specs.Finding.{Finds}
use Rattle.tree_blocks.specs.Order.{turned_cells}

-- name k of a list, as a quad of a height
abbrev pub named : ℕ → List ℕ → ℕ → Quad
named height names k = record { height = height; name = slice_index names k }

-- the first `count` names of a list stand at a height
abbrev pub AllStand : Keeper → ℕ → List ℕ → ℕ → Type 0
AllStand w height names count = (k : ℕ) → k < count → QuadStands w (named height names k)

-- name k of a height is expanded: the four names from 4k on are those of its quarters or, for a transposition, those of
-- the quarters of its transposition before each is transposed itself
pub record IsOpened (turned : Bool) (old new : Keeper) (height : ℕ) (before after : List ℕ) (k : ℕ) : Type 0 where
  pub nw : QuadStands new (named (height - 1) after (4 * k))
  pub ne : QuadStands new (named (height - 1) after (4 * k + 1))
  pub sw : QuadStands new (named (height - 1) after (4 * k + 2))
  pub se : QuadStands new (named (height - 1) after (4 * k + 3))
  pub means : quartered (side_of (height - 1))
      (turned_cells turned (quad_cells new (named (height - 1) after (4 * k))))
      (turned_cells turned (quad_cells new (named (height - 1) after (4 * k + 1))))
      (turned_cells turned (quad_cells new (named (height - 1) after (4 * k + 2))))
      (turned_cells turned (quad_cells new (named (height - 1) after (4 * k + 3))))
      ≡ turned_cells turned (quad_cells old (named height before k))

-- the cells of the square whose quarters have the four names from 4k on
abbrev pub corner_cells : Keeper → ℕ → List ℕ → ℕ → Cells
corner_cells w height names k = quartered (side_of height) (quad_cells w (named height names (4 * k)))
    (quad_cells w (named height names (4 * k + 1))) (quad_cells w (named height names (4 * k + 2)))
    (quad_cells w (named height names (4 * k + 3)))

-- the first `count` names of a list have these sets at a height
abbrev pub AreNamed : Keeper → ℕ → (ℕ → Cells) → List ℕ → ℕ → Type 0
AreNamed w height f names count = (k : ℕ) → k < count → IsQuad w height (f k) (named height names k)

-- for each of the first `count` sets, a quad of the height stands
abbrev pub HaveStood : Keeper → ℕ → (ℕ → Cells) → ℕ → Type 0
HaveStood w height f count = (k : ℕ) → k < count → (q : Quad) × IsQuad w height (f k) q

-- if quads of all these sets stood already, no word is placed and none is missed
abbrev pub FindsAll : {E : Type 0} → Keeper → Keeper → ℕ → (ℕ → Cells) → ℕ → Result Unit E → Type 0
FindsAll old new height f count result = HaveStood old height f count → Finds old new tt result
