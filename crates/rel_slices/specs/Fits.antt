-- Bounds on the rooms of values, by the height of a square that holds them.
use Rattle.std.specs.Prelude.{◌≤◌, ◌*◌, ◌^◌, max, ℕ}
use Rattle.rel_model.specs.Roots.{relation_room}
use Rattle.rel_model.specs.Relation.{size_limit}
use Rattle.rel_model.specs.Worker.{Worker, height_of, plain_room}
use Rattle.rel_slices.specs.declared.thin.Value.{Value}
use Rattle.rel_slices.specs.Thin.{most_lines, ValueStands, value_rows, value_cols, IsLong}
use Rattle.rel_slices.specs.ValueRooms.{assembly_room, pieces_room, complement_room, formed_room}

-- an operator applied piece by piece costs at most one tree for each line that a relation may have
abbrev pub PiecesMost : Type 0
PiecesMost = (w : Worker) (least : ℕ) (v : Value) → ValueStands w v
    → pieces_room least v ≤ most_lines * relation_room least (value_rows v) (value_cols v)

-- over leaves of 8 by 8, it costs at most three and a half times the cells of the square
abbrev pub PiecesFit : Type 0
PiecesFit = (w : Worker) (v : Value) (h : ℕ) → ValueStands w v → value_rows v ≤ 2 ^ h → value_cols v ≤ 2 ^ h
    → 2 * pieces_room 3 v ≤ 7 * 4 ^ h

-- a complement costs at most four times the cells of the square
abbrev pub ComplementFits : Type 0
ComplementFits = (w : Worker) (v : Value) (h : ℕ) → ValueStands w v → value_rows v ≤ 2 ^ h → value_cols v ≤ 2 ^ h
    → complement_room 3 v ≤ 4 * 4 ^ h

-- a room of a value is within what the language charges for an operator of its sizes
abbrev pub WithinCost : (Value → ℕ) → Type 0
WithinCost room = (w : Worker) (v : Value) → ValueStands w v → value_rows v ≤ size_limit → value_cols v ≤ size_limit
    → room v ≤ plain_room (value_rows v) (value_cols v)

-- bringing a relation into the form of its sizes costs at most a quarter of the cells of the square that holds it
abbrev pub FormedFits : Type 0
FormedFits = (m n : ℕ) → m ≤ size_limit → n ≤ size_limit → 4 * formed_room 3 m n ≤ 4 ^ max (height_of m) (height_of n)

-- making long lines whole costs at most that as well
abbrev pub AssemblyFits : Type 0
AssemblyFits = (w : Worker) (v : Value) → ValueStands w v → IsLong v
    → 4 * assembly_room 3 v ≤ 4 ^ max (height_of (value_rows v)) (height_of (value_cols v))
