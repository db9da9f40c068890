-- How many nodes an image makes at most.
use Rattle.std.specs.Prelude.{◌-◌, ℕ}
use Rattle.rel_model.specs.Roots.{height_over}
use Rattle.rel_rows.specs.Rooms.{strip}

-- how many nodes the tree of a relation of one row and cols columns takes, over leaves of a height
abbrev pub line_room : ℕ → ℕ → ℕ
line_room least cols = strip (height_over least 1 cols - least)
