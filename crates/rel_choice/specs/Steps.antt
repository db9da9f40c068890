-- The step from each number to the next one, as a set of cells and as a relation.
use Rattle.std.specs.Prelude.{◌==◌, ◌&&◌, ◌+◌, ◌-◌, ◌*◌, ◌^◌, nat_lt, ℕ}
use Rattle.rel_model.specs.Relation.{Relation, relation_of}
use Rattle.rel_model.specs.Cells.{Cells}
use Rattle.rel_model.specs.Roots.{height_over}
use Rattle.rel_model.specs.Worker.{Worker, GivesQuad, operator_room}
use Rattle.rel_choice.specs.declared.stepping.Steps.{Steps}

-- the cells (j + 1, j) of a square of side m
abbrev pub step_cells : ℕ → Cells
step_cells m i j = nat_lt i m && (i == j + 1)

-- the cell in the first row and the last column of a square of side m
abbrev pub carry_cells : ℕ → Cells
carry_cells m i j = (i == 0) && (j + 1 == m)

-- the pairs (j + 1, j) of the numbers below n
unfoldable pub step_relation : ℕ → Relation
step_relation n = relation_of n n (λ i j. i == j + 1)

-- the quads of a height for the steps within their square, and for the step into it from the square before
pub record GivesSteps (w : Worker) (height : ℕ) (steps : Steps) : Type 0 where
  pub whole : GivesQuad w height (step_cells (2 ^ height)) steps.whole
  pub carry : GivesQuad w height (carry_cells (2 ^ height)) steps.carry

-- how many nodes the steps of a height may take, over leaves of a height
abbrev pub steps_room : ℕ → ℕ → ℕ
steps_room least height = 6 * (height - least) + 2

-- how many nodes the relation of the steps below n may take: the full relation, the steps of its height, and their
-- intersection
unfoldable pub step_room : ℕ → ℕ → ℕ
step_room least n = operator_room n n + steps_room least (height_over least n n) + operator_room
    (2 ^ height_over least n n) (2 ^ height_over least n n)
