-- How many nodes the calls on values may make.
use Rattle.std.specs.Prelude.{◌+◌, ◌*◌, ◌^◌, ◌&&◌, nat_le, ℕ, cond}
use Rattle.rel_model.specs.Roots.{relation_room}
use Rattle.rel_model.specs.Worker.{height_of_three}
use Rattle.rel_slices.specs.declared.thin.Value.{Value}
use Rattle.rel_slices.specs.declared.thin.Value.TheVariants.{Whole, Lines}
use Rattle.rel_slices.specs.Thin.{most_lines}
use Rattle.rel_slices.specs.Rooms.{whole_room, line_tree_room, cut_room}

-- making a value whole
abbrev pub assembly_room : ℕ → Value → ℕ
assembly_room least (Whole r) = 0
assembly_room least (Lines s) = whole_room least s.turned s.count s.other

-- an operator applied to one value piece by piece
abbrev pub pieces_room : ℕ → Value → ℕ
pieces_room least (Whole r) = relation_room least r.rows r.cols
pieces_room least (Lines s) = s.count * line_tree_room least s.other

-- the full value of this one's form: one line, used for all
abbrev pub full_room : ℕ → Value → ℕ
full_room least (Whole r) = relation_room least r.rows r.cols
full_room least (Lines s) = line_tree_room least s.other

-- the full value, and an operator applied piece by piece
abbrev pub complement_room : ℕ → Value → ℕ
complement_room least v = full_room least v + pieces_room least v

-- a transposition: no node is made of lines
abbrev pub transpose_room : ℕ → Value → ℕ
transpose_room least (Whole r) = relation_room least r.rows r.cols
transpose_room least (Lines s) = 0

-- bringing a whole relation into the form of its sizes: its rows or columns, if these are few and long
abbrev pub formed_room : ℕ → ℕ → ℕ → ℕ
formed_room least rows cols = cond (nat_le rows most_lines && nat_le 257 cols) (cut_room least rows cols)
    (cond (nat_le cols most_lines && nat_le 257 rows) (relation_room least rows cols + cut_room least cols rows) 0)

-- a composition in which an operand or the result is thin
abbrev pub thin_room : ℕ → ℕ → ℕ → ℕ
thin_room k m n = 15 * 8 ^ height_of_three k m n

-- a residual: a transposition, two complements and a composition
abbrev pub residual_room : ℕ → ℕ → ℕ → ℕ
residual_room k m n = 26 * 8 ^ height_of_three k m n
