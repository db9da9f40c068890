-- What a value means in a worker, and which form it has.
use Rattle.std.specs.Prelude.{◌≡◌, ◌<◌, ◌≤◌, ◌⊎◌, ℕ, Bool, cond, false, min, max, slice_index}
use Rattle.rel_model.specs.declared.Rel.{Rel}
use Rattle.rel_model.specs.Relation.{Relation, has, relation_of, size_limit}
use Rattle.rel_model.specs.Worker.{Worker, Stands, set_of, Gives}
use Rattle.rel_slices.specs.declared.thin.Thin.{Thin}
use Rattle.rel_slices.specs.declared.thin.Value.{Value}
use Rattle.rel_slices.specs.declared.thin.Value.TheVariants.{Whole, Lines}

-- the most lines that a thin relation has
abbrev pub most_lines : ℕ
most_lines = 112

-- line i, a relation of one row
abbrev pub line_of : Thin → ℕ → Rel
line_of s i = record { rows = 1; cols = s.other; root = slice_index s.roots i }

-- its set of pairs
abbrev pub line_set : Worker → Thin → ℕ → Relation
line_set w s i = set_of w (line_of s i)

-- all lines stand, there are at most most_lines, and they are within the limit
pub record ThinStands (w : Worker) (s : Thin) : Type 0 where
  pub few : s.count ≤ most_lines
  pub limit : s.other ≤ size_limit
  pub lines : (i : ℕ) → i < s.count → Stands w (line_of s i)

-- how many rows a thin relation has
abbrev pub thin_rows : Thin → ℕ
thin_rows s = cond s.turned s.other s.count

-- how many columns it has
abbrev pub thin_cols : Thin → ℕ
thin_cols s = cond s.turned s.count s.other

-- the relation whose rows, or whose columns if turned, are these lines
unfoldable pub laid : Bool → ℕ → ℕ → (ℕ → Relation) → Relation
laid turned count other line = cond turned (relation_of other count (λ i j. has (line j) 0 i))
    (relation_of count other (λ i j. has (line i) 0 j))

-- what a thin relation means
abbrev pub thin_of : Worker → Thin → Relation
thin_of w s = laid s.turned s.count s.other (line_set w s)

-- the lines stand, and have these sets
pub record GivesLines (w : Worker) (turned : Bool) (count other : ℕ) (line : ℕ → Relation) (s : Thin) : Type 0 where
  pub turned_is : s.turned ≡ turned
  pub count_is : s.count ≡ count
  pub other_is : s.other ≡ other
  pub few : count ≤ most_lines
  pub limit : other ≤ size_limit
  pub lines : (i : ℕ) → i < count → Gives w 1 other (line i) (line_of s i)

-- ---- values
-- the value stands
abbrev pub ValueStands : Worker → Value → Type 0
ValueStands w (Whole r) = Stands w r
ValueStands w (Lines s) = ThinStands w s

-- what it means
abbrev pub value_of : Worker → Value → Relation
value_of w (Whole r) = set_of w r
value_of w (Lines s) = thin_of w s

-- how many rows it has
abbrev pub value_rows : Value → ℕ
value_rows (Whole r) = r.rows
value_rows (Lines s) = thin_rows s

-- how many columns it has
abbrev pub value_cols : Value → ℕ
value_cols (Whole r) = r.cols
value_cols (Lines s) = thin_cols s

-- The value has the form of its sizes: lines along its shorter side if that is at most `most_lines` and the longer side
-- more than 256, otherwise whole.
abbrev pub HasForm : Value → Type 0
HasForm (Whole r) = min r.rows r.cols ≤ most_lines → max r.rows r.cols ≤ 256
HasForm (Lines s) = 257 ≤ s.other

-- if the value is lines, they are long: each ranges over more than 256 elements
abbrev pub IsLong : Value → Type 0
IsLong (Whole r) = Unit {0}
IsLong (Lines s) = 257 ≤ s.other

-- the value is lines
abbrev pub IsLines : Value → Type 0
IsLines (Whole r) = ⊥
IsLines (Lines s) = Unit {0}

-- the sizes are thin: the shorter side is at most `most_lines` and the longer one more than 256
abbrev pub IsThin : ℕ → ℕ → Type 0
IsThin rows cols = (min rows cols ≤ most_lines) × (257 ≤ max rows cols)

-- of an operation on two values whose result has these sizes: an operand is lines, or the result is thin
abbrev pub SomeThin : Value → Value → ℕ → ℕ → Type 0
SomeThin x y rows cols = IsLines x ⊎ IsLines y ⊎ IsThin rows cols

-- the value stands, and has these sizes and this set
pub record GivesValue (w : Worker) (rows cols : ℕ) (set : Relation) (v : Value) : Type 0 where
  pub stands : ValueStands w v
  pub means : value_of w v ≡ set
  pub row_size : value_rows v ≡ rows
  pub col_size : value_cols v ≡ cols

-- the lines are the rows of a relation, or if turned, the columns of its transpose
pub record GivesRowsOf (w : Worker) (turned : Bool) (rows cols : ℕ) (set : Relation) (s : Thin) : Type 0 where
  pub turned_is : s.turned ≡ turned
  pub count_is : s.count ≡ rows
  pub other_is : s.other ≡ cols
  pub stands : ThinStands w s
  pub means : laid false rows cols (line_set w s) ≡ set

-- the lines stand, and mean this relation
pub record GivesThin (w : Worker) (turned : Bool) (count other : ℕ) (set : Relation) (s : Thin) : Type 0 where
  pub turned_is : s.turned ≡ turned
  pub count_is : s.count ≡ count
  pub other_is : s.other ≡ other
  pub stands : ThinStands w s
  pub means : thin_of w s ≡ set
