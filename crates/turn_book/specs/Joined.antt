-- Passes that are joined into one, one after another.
use Rattle.std.specs.Prelude.{◌≡◌, ◌+◌, ℕ, List, [], ◌∷◌, ◌++◌, All}
use Rattle.turn_book.specs.Entries.{Entry}
use Rattle.turn_book.specs.Logs.{Begins}
use Rattle.turn_book.specs.Views.{View, lists_of}

-- the lists of entries that passes hold, in the order of the passes
abbrev pub all_lists : List View → List (List Entry)
all_lists [] = []
all_lists (p ∷ ps) = lists_of p ++ all_lists ps

-- how many passes they stand for: each for itself and its spare ones
abbrev pub places : List View → ℕ
places [] = 0
places (p ∷ ps) = p.spare + 1 + places ps

-- a pass after these were joined to it: it holds their lists after its own, and what each of them had seen is a prefix
-- of the log that it has seen
pub record JoinsAll (passes : List View) (old new : View) : Type 0 where
  pub book : new.book ≡ old.book
  pub house : new.house ≡ old.house
  pub start : new.start ≡ old.start
  pub turn : new.turn ≡ old.turn
  pub mine : new.mine ≡ old.mine
  pub joined : new.joined ≡ old.joined ++ all_lists passes
  pub spare : new.spare ≡ old.spare + places passes
  pub own_seen : Begins old.seen new.seen
  pub each_seen : All (λ p. Begins p.seen new.seen) passes
