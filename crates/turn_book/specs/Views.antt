-- What callers see of a turn book and of a pass, and what each call on them promises.
use Rattle.std.specs.Prelude.{◌≡◌, ◌+◌, ◌-◌, ℕ, Bool, true, false, List, [], ◌∷◌, ◌++◌, length, drop, cond, ltb}
use base.Stored.{Gv}
use Rattle.turn_book.specs.Entries.{Entry}

-- the identity that a value belongs to; opaque, only equality can be tested
abbrev pub House : Type 0
House = Gv

-- what a value began with: two finite maps, from names to relations and from names to numbers, each as a list of pairs.
-- A name is the list of its bytes, a relation is its rows, its columns and its name in the table
pub record Start : Type 0 where
  pub relations : List (List ℕ × (ℕ × ℕ × ℕ))
  pub numbers : List (List ℕ × ℕ)

-- nothing was there before
abbrev pub no_start : Start
no_start = record { relations = []; numbers = [] }

-- a turn book
pub record Book : Type 0 where
  -- its identity
  pub book : Gv
  -- how many passes it was made for
  pub passes : ℕ

-- a pass
pub record View : Type 0 where
  -- the book that it belongs to
  pub book : Gv
  -- the house of the book's value
  pub house : House
  -- what the book's value began with
  pub start : Start
  -- the log as it was last seen
  pub seen : List Entry
  -- the entries that it added itself
  pub mine : List Entry
  -- the entries of each pass that was joined to it
  pub joined : List (List Entry)
  -- how many passes may still be split off
  pub spare : ℕ
  -- whether it has the turn
  pub turn : Bool

-- the longer of two lists
abbrev pub longer : List Entry → List Entry → List Entry
longer xs ys = cond (ltb (length xs) (length ys)) ys xs

-- the shorter of two lists
abbrev pub shorter : List Entry → List Entry → List Entry
shorter xs ys = cond (ltb (length xs) (length ys)) xs ys

-- all lists of entries that a pass holds: its own and those of joined passes
abbrev pub lists_of : View → List (List Entry)
lists_of v = v.mine ∷ v.joined

-- the first pass of a book
abbrev pub first_pass : Gv → House → Start → ℕ → View
first_pass book house start passes = record {
  book = book;
  house = house;
  start = start;
  seen = [];
  mine = [];
  joined = [];
  spare = passes - 1;
  turn = false;
}

-- a new book, and its first pass
pub record IsFresh (passes : ℕ) (house : House) (start : Start) (made : Book × View) : Type 0 where
  pub passes_are : made.0.passes ≡ passes
  pub pass_is : made.1 ≡ first_pass made.0.book house start passes

-- a pass belongs to this book, and does not have the turn
pub record IsReady (book : Book) (pass : View) : Type 0 where
  pub of : pass.book ≡ book.book
  pub idle : pass.turn ≡ false

-- a pass keeps everything except what it has seen and entered
pub record IsKept (old new : View) : Type 0 where
  pub book : new.book ≡ old.book
  pub house : new.house ≡ old.house
  pub start : new.start ≡ old.start
  pub joined : new.joined ≡ old.joined
  pub spare : new.spare ≡ old.spare
  pub turn : new.turn ≡ old.turn

-- a turn is taken: the log is seen
abbrev pub with_turn : List Entry → View → View
with_turn log v = record {
  book = v.book;
  house = v.house;
  start = v.start;
  seen = log;
  mine = v.mine;
  joined = v.joined;
  spare = v.spare;
  turn = true;
}

-- the value is put back: the new entries belong to the pass
abbrev pub with_log : List Entry → View → View
with_log log v = record {
  book = v.book;
  house = v.house;
  start = v.start;
  seen = log;
  mine = v.mine ++ drop (length v.seen) log;
  joined = v.joined;
  spare = v.spare;
  turn = false;
}

-- what is left of a pass when a second one is split off
abbrev pub less_one : View → View
less_one v = record {
  book = v.book;
  house = v.house;
  start = v.start;
  seen = v.seen;
  mine = v.mine;
  joined = v.joined;
  spare = v.spare - 1;
  turn = v.turn;
}

-- the second pass
abbrev pub split_off : View → View
split_off v = record {
  book = v.book;
  house = v.house;
  start = v.start;
  seen = v.seen;
  mine = [];
  joined = [];
  spare = 0;
  turn = false;
}

-- two passes become one: it has seen the longer log, and keeps the lists of both
abbrev pub with_other : View → View → View
with_other v w = record {
  book = v.book;
  house = v.house;
  start = v.start;
  seen = longer v.seen w.seen;
  mine = v.mine;
  joined = v.joined ++ lists_of w;
  spare = v.spare + w.spare + 1;
  turn = v.turn;
}
