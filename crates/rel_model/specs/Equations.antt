-- Equations between names, the memo words that hold them, and when all words of a table are sound.
use Rattle.std.specs.Prelude.{◌≡◌, ◌≢◌, ◌<◌, ◌≤◌, ◌+◌, ◌-◌, ◌*◌, ◌/◌, ◌%◌, ◌^◌, ℕ, true, List, length, take, slice_index}
use Rattle.rel_model.specs.Cells.{Cells, cells_union, cells_inter, cells_diff, cells_transpose, cells_compose}
use Rattle.rel_model.specs.Trees.{bottom_height, top_height, cells, stands, twice, side}
use Rattle.rel_model.specs.Words.{IsSound}

-- the operators of equations
pub data Operator : Type 0 where
  Union : Operator
  Inter : Operator
  Diff : Operator
  Transpose : Operator
  Compose : Operator

-- what an operator makes of two sets within a square of side m
abbrev pub result_of : Operator → ℕ → Cells → Cells → Cells
result_of Union m f g = cells_union f g
result_of Inter m f g = cells_inter f g
result_of Diff m f g = cells_diff f g
result_of Transpose m f g = cells_transpose f
result_of Compose m f g = cells_compose m f g

-- the set of r is the operator's result on the sets of a and b; all three are names at one height
pub record Equation : Type 0 where
  pub op : Operator
  pub height : ℕ
  pub a : ℕ
  pub b : ℕ
  pub r : ℕ

-- the depth at which the names of a height stand
abbrev pub depth_of : ℕ → ℕ
depth_of height = twice (height - bottom_height)

-- the side of the square of a height
abbrev pub side_of : ℕ → ℕ
side_of height = side (height - bottom_height)

-- the three names stand at the height, and the set of r is the operator's result on the other two; a transposition has
-- no second operand
pub record IsTrueIn (words : List ℕ) (e : Equation) : Type 0 where
  pub low : bottom_height ≤ e.height
  pub high : e.height ≤ top_height
  pub a_stands : stands words (depth_of e.height) e.a ≡ true
  pub b_stands : stands words (depth_of e.height) e.b ≡ true
  pub r_stands : stands words (depth_of e.height) e.r ≡ true
  pub one_operand : e.op ≡ Transpose → e.b ≡ 0
  pub means : cells words (depth_of e.height) e.r ≡ result_of e.op (side_of e.height)
      (cells words (depth_of e.height) e.a) (cells words (depth_of e.height) e.b)

-- an operator's number in a memo word
abbrev pub code_of : Operator → ℕ
code_of Union = 1
code_of Inter = 2
code_of Diff = 3
code_of Transpose = 4
code_of Compose = 5

-- how many memo words follow the node words
abbrev pub memo_slots : ℕ
memo_slots = 2 ^ 20

-- how many slots belong to one remainder of the first name; also how many remainders the second name has
abbrev pub slot_row : ℕ
slot_row = 2 ^ 10

-- the slot of an equation with these two operands
abbrev pub home_slot : ℕ → ℕ → ℕ
home_slot a b = a % slot_row * slot_row + b % slot_row

-- an equation packed into one word, without the part of a and b that its slot determines
abbrev pub word_of_equation : Equation → ℕ
word_of_equation e = e.a / slot_row * 2 ^ 47 + e.b / slot_row * 2 ^ 33 + e.r * 2 ^ 9 + code_of e.op * 2 ^ 5 + e.height

-- a valid memo word: that of a true equation, at home in its slot
pub record IsMemo (words : List ℕ) (slot word : ℕ) : Type 0 where
  pub equation : Equation
  pub is_word : word ≡ word_of_equation equation
  pub home : slot ≡ home_slot equation.a equation.b
  pub holds : IsTrueIn words equation

-- ---- the words of a whole table
-- the node words
abbrev pub node_words : ℕ → List ℕ → List ℕ
node_words bits words = take (2 ^ bits) words

-- the memo word of a slot; memo words follow the node words
abbrev pub memo_word : ℕ → List ℕ → ℕ → ℕ
memo_word bits words slot = slice_index words (2 ^ bits + slot)

-- sound words of a table: sound node words, and each memo word that is not 0 is a true equation at home in its slot
pub record IsSoundTable (bits : ℕ) (words : List ℕ) : Type 0 where
  pub size : length words ≡ 2 ^ bits + memo_slots
  pub nodes : IsSound (node_words bits words)
  pub memo : (slot : ℕ) → slot < memo_slots → memo_word bits words slot ≢ 0
      → IsMemo (node_words bits words) slot (memo_word bits words slot)
