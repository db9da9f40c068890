-- How many nodes a walk along one row makes at most.
use Rattle.std.specs.Prelude.{◌-◌, ◌*◌, ◌^◌, ℕ}
use Rattle.rel_model.specs.Roots.{height_over}

-- how many nodes a row takes, this many heights above the leaves: 1 for a leaf; above leaves, those of the two quarters
-- that the row crosses, and 3 for their corner
abbrev pub strip : ℕ → ℕ
strip depth = 4 * 2 ^ depth - 3

-- how many nodes a row of a relation with these sizes takes, over leaves of a height
unfoldable pub strip_room : ℕ → ℕ → ℕ → ℕ
strip_room least rows cols = 4 * 2 ^ (height_over least rows cols - least)
