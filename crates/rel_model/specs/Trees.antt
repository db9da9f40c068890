-- Trees in the words of a table. A name is a place in the list of words; a word that is 0 marks a vacant place. A word
-- above the blocks is a pair of names. The depth of a level counts the pairings above the blocks of 8 by 8: level l of
-- the trees is depth l - 6, and a square of side 2 ^ h is at depth 2 * (h - 3).
use Rattle.std.specs.Prelude.{◌==◌, ◌+◌, ◌-◌, ◌/◌, ◌%◌, ◌^◌, ◌&&◌, ◌||◌, not, nat_lt, cond, zero, suc, ℕ, Bool, true, List, slice_index}
use Rattle.rel_model.specs.Relation.{size_height}
use Rattle.rel_model.specs.Cells.{Cells, block_cells}

-- the height of a block: squares of side 2 ^ 3 are the leaves
unfoldable pub bottom_height : ℕ
bottom_height = 3

-- the greatest height of a square
unfoldable pub top_height : ℕ
top_height = size_height

-- the first name of a pair
abbrev pub first_of : ℕ → ℕ
first_of word = word / 2 ^ 32

-- the second name of a pair
abbrev pub second_of : ℕ → ℕ
second_of word = word % 2 ^ 32

-- the second set to the right of the first, which has m columns
abbrev pub beside : ℕ → Cells → Cells → Cells
beside m f g i j = cond (nat_lt j m) (f i j) (g i (j - m))

-- the second set below the first, which has m rows
abbrev pub above : ℕ → Cells → Cells → Cells
above m f g i j = cond (nat_lt i m) (f i j) (g (i - m) j)

-- whether the sets of a depth are squares
abbrev pub is_square : ℕ → Bool
is_square zero = true
is_square (suc k) = not (is_square k)

-- how many rows the sets of a depth have: 8 * 2 ^ (k / 2)
abbrev pub rows_at : ℕ → ℕ
rows_at zero = 8
rows_at (suc k) = cond (is_square k) (rows_at k) (rows_at k + rows_at k)

-- how many columns the sets of a depth have: as many as rows, or twice as many if the depth is odd
abbrev pub cols_at : ℕ → ℕ
cols_at zero = 8
cols_at (suc k) = cond (is_square k) (cols_at k + cols_at k) (cols_at k)

-- two sets of depth k combined into one of the next depth: two squares side by side, or two wide sets one above the
-- other
abbrev pub paired : ℕ → Cells → Cells → Cells
paired k f g = cond (is_square k) (beside (cols_at k) f g) (above (rows_at k) f g)

-- the cells of a name at a depth: the bits of its word, or the pairing of the cells of its two names
abbrev pub cells : List ℕ → ℕ → ℕ → Cells
cells words zero n = block_cells (slice_index words n)
cells words (suc k) n = paired k (cells words k (first_of (slice_index words n)))
    (cells words k (second_of (slice_index words n)))

-- whether a name has a word (its place is not vacant)
abbrev pub is_stored : List ℕ → ℕ → Bool
is_stored words n = not (slice_index words n == 0)

-- whether a name stands at a depth: name 0 does at each depth, a stored name does at depth 0, and above it a stored
-- name does if the two names in its word stand at the depth below
abbrev pub stands : List ℕ → ℕ → ℕ → Bool
stands words zero n = (n == 0) || is_stored words n
stands words (suc k) n = (n == 0) || (is_stored words n
    && (stands words k (first_of (slice_index words n)) && stands words k (second_of (slice_index words n))))

-- the depth of a square of side 8 * 2 ^ d
abbrev pub twice : ℕ → ℕ
twice zero = zero
twice (suc d) = suc (suc (twice d))

-- the side of a square
abbrev pub side : ℕ → ℕ
side zero = 8
side (suc d) = side d + side d

-- four sets of side m combined into one
abbrev pub quartered : ℕ → Cells → Cells → Cells → Cells → Cells
quartered m nw ne sw se i j = cond (nat_lt i m) (cond (nat_lt j m) (nw i j) (ne i (j - m)))
    (cond (nat_lt j m) (sw (i - m) j) (se (i - m) (j - m)))
