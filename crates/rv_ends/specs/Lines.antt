-- The lines that are written instead of a page.
use Rattle.std.specs.Prelude.{◌≡◌, ◌++◌, ℕ, List, [], ◌∷◌, codes, Some, None}
use Rattle.rv_words.specs.Uses.{Word}
use Rattle.rv_words.specs.Said.{Said, said_by}
use Rattle.rv_io.specs.Outside.{Told, Rose, IsOver}
use Rattle.rv_ends.specs.Given.{file_words, limit_of, AreWithin}

-- the line for words outside the accepted set
unfoldable pub usage_line : List ℕ
usage_line = codes "usage: relview [--workers N] [--nodes K] [--turns T] [--history] [--gen NUMBER] FILE... [--then FILE...]..."
    ++ 10 ∷ []

-- the line for a file that the shelf could not give
unfoldable pub cannot_read_line : List ℕ → List ℕ
cannot_read_line name = codes "relview: cannot read " ++ name ++ 10 ∷ []

-- the line for a file that exceeds its limit
unfoldable pub too_long_line : List ℕ → List ℕ
too_long_line name = codes "relview: " ++ name ++ codes " is too long" ++ 10 ∷ []

-- a FILE word of accepted words, such that each FILE word before it names a file within its limit
pub record IsFirst (words : List Word) (old : Told) (name : Word) : Type 0 where
  pub said : Said
  pub taken : said_by words ≡ Some said
  pub before : List Word
  pub after : List Word
  pub place : file_words words ≡ before ++ name ∷ after
  pub within : AreWithin old.files before

-- A line, its status and its cause: the words are outside the accepted set; or the shelf failed at a FILE word; or the
-- file of a FILE word exceeds its limit.
pub data IsSaid (words : List Word) (old new : Told) : List ℕ → ℕ → Type 0 where
  Usage : said_by words ≡ None → IsSaid words old new usage_line 2
  Unread : (name : Word) → IsFirst words old name → Rose old.faults new.faults
      → IsSaid words old new (cannot_read_line name) 3
  TooLong : (name : Word) → IsFirst words old name → IsOver old.files name (limit_of name)
      → IsSaid words old new (too_long_line name) 3
