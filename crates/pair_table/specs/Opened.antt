-- What callers see of a table that is opened over existing words.
use Rattle.std.specs.Prelude.{◌≡◌, ◌+◌, ℕ, List, None}
use Rattle.rel_model.specs.Words.{stored_count}
use Rattle.rel_model.specs.Equations.{node_words}
use Rattle.rel_model.specs.Views.{Table, View, IsOf}

-- a table over words, and its first seat, which has seen all node words and counts the stored ones as made
pub record IsOpened (bits : ℕ) (words : List ℕ) (seats : ℕ) (made : Table × View) : Type 0 where
  -- the table has this size, for this many seats
  pub bits_are : made.0.bits ≡ bits
  pub seats_are : made.0.seats ≡ seats
  -- the seat belongs to the table
  pub of : IsOf made.1 made.0
  -- the seat has seen exactly the node words
  pub words_are : made.1.words ≡ node_words bits words
  -- the stored nodes count as made by it
  pub all_made : made.1.made ≡ stored_count (node_words bits words)
  -- all seats but itself may be split off
  pub spare_is : made.1.spare + 1 ≡ seats
  -- it has made no memo step
  pub no_load : made.1.last ≡ None
  -- and was refused nothing
  pub none_refused : made.1.refused ≡ 0
