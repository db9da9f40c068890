-- Quads: squares of cells by their names in a table. What a keeper of quads holds, what its calls keep, and how it
-- counts misses.
use Rattle.std.specs.Prelude.{◌≡◌, ◌≢◌, ◌<◌, ◌≤◌, ◌+◌, ◌-◌, ◌*◌, ◌^◌, min, ℕ, zero, suc, true, Result, Ok, Err}
use Rattle.rel_model.specs.declared.Quad.{Quad}
use Rattle.rel_model.specs.declared.Quarters.{Quarters}
use Rattle.rel_model.specs.Cells.{Cells}
use Rattle.rel_model.specs.Trees.{bottom_height, top_height, cells, stands, quartered}
use Rattle.rel_model.specs.Words.{Extends, IsFull}
use Rattle.rel_model.specs.Equations.{depth_of, side_of}
use Rattle.rel_model.specs.Views.{Table, View, IsOf, Splits, Joins}

-- what a keeper of quads holds
pub record Keeper : Type 0 where
  -- the table on which it works
  pub table : Table
  -- what its seat knows
  pub view : View
  -- how often no place for a word was found
  pub misses : ℕ

-- the seat belongs to the table, the count fits in 64 bits, and if it is not 0 then every place is taken, as the view
-- shows
pub record IsKeeper (w : Keeper) : Type 0 where
  pub of : IsOf w.view w.table
  pub counted : w.misses < 2 ^ 64
  pub full : w.misses ≢ 0 → IsFull w.view.words

-- the set of a quad; no cell lies outside its square
abbrev pub quad_cells : Keeper → Quad → Cells
quad_cells w q = cells w.view.words (depth_of q.height) q.name

-- a quad stands: its height is that of a square, and its name stands at the depth of that height
pub record QuadStands (w : Keeper) (q : Quad) : Type 0 where
  pub low : bottom_height ≤ q.height
  pub high : q.height ≤ top_height
  pub standing : stands w.view.words (depth_of q.height) q.name ≡ true

-- a quad of this height stands, with this set
pub record IsQuad (w : Keeper) (height : ℕ) (f : Cells) (q : Quad) : Type 0 where
  pub same_height : q.height ≡ height
  pub stands : QuadStands w q
  pub means : quad_cells w q ≡ f

-- a call keeps the table, the spare seats and all that was seen, and places at most `most` words
pub record KeepsQuads (most : ℕ) (old new : Keeper) : Type 0 where
  pub before : IsKeeper old
  pub after : IsKeeper new
  pub table : new.table ≡ old.table
  pub seen : Extends old.view.words new.view.words
  pub house : new.view.house ≡ old.view.house
  pub spare : new.view.spare ≡ old.view.spare
  pub grows : old.view.made ≤ new.view.made
  pub room : new.view.made ≤ old.view.made + most

-- a call that reads places no word and misses nothing
pub record ReadsQuads (old new : Keeper) : Type 0 where
  pub keeps : KeepsQuads 0 old new
  pub misses : new.misses ≡ old.misses

-- one miss more; the count saturates
abbrev pub one_more_miss : ℕ → ℕ
one_more_miss n = min (n + 1) (2 ^ 64 - 1)

-- a call that found no place counts one miss, and one that succeeded counts none; where the misses are the refusals of
-- the keeper's seat, a call that fails has asked the table for a place and was refused, exactly once
abbrev pub Counts : {T E : Type 0} → Keeper → Keeper → Result T E → Type 0
Counts old new (Ok x) = new.misses ≡ old.misses
Counts old new (Err e) = new.misses ≡ one_more_miss old.misses

-- the quarters of a quad: north-west, north-east, south-west and south-east
pub record AreQuarters (old new : Keeper) (q : Quad) (four : Quarters) : Type 0 where
  pub nw : QuadStands new four.nw
  pub ne : QuadStands new four.ne
  pub sw : QuadStands new four.sw
  pub se : QuadStands new four.se
  pub nw_height : four.nw.height + 1 ≡ q.height
  pub ne_height : four.ne.height + 1 ≡ q.height
  pub sw_height : four.sw.height + 1 ≡ q.height
  pub se_height : four.se.height + 1 ≡ q.height
  pub means : quad_cells old q ≡ quartered (side_of four.nw.height) (quad_cells new four.nw) (quad_cells new four.ne)
      (quad_cells new four.sw) (quad_cells new four.se)

-- how many words an operator on squares of a height places at most: 1 for a block; above blocks, those of the four
-- quarters of the result, and 3 for their corner
abbrev pub quad_room : ℕ → ℕ
quad_room height = 2 * 4 ^ (height - bottom_height) - 1

-- how many words a composition d heights above the blocks places at most: 1 for a block; above blocks, those of eight
-- products and four unions of quarters, and 3 for their corner
abbrev pub composed_words : ℕ → ℕ
composed_words zero = 1
composed_words (suc d) = 8 * composed_words d + 4 * (2 * 4 ^ d - 1) + 3

-- how many words a composition of squares of a height places at most
abbrev pub compose_room : ℕ → ℕ
compose_room height = composed_words (height - bottom_height)

-- a second keeper is split off: both know the same, and the second has missed nothing
pub record SplitsKeeper (spare : ℕ) (old new second : Keeper) : Type 0 where
  pub views : Splits spare old.view new.view second.view
  pub table : new.table ≡ old.table
  pub second_table : second.table ≡ old.table
  pub misses : new.misses ≡ old.misses
  pub second_misses : second.misses ≡ 0
  pub after : IsKeeper new
  pub second_after : IsKeeper second

-- two keepers become one, which knows what either knew and counts the misses of both (the count saturates)
pub record JoinsKeeper (old other new : Keeper) : Type 0 where
  pub views : Joins old.view other.view new.view
  pub table : new.table ≡ old.table
  pub misses : new.misses ≡ min (old.misses + other.misses) (2 ^ 64 - 1)
  pub after : IsKeeper new
