-- What a session does to its pass, and what a run of concurrent sessions reports.
use Rattle.std.specs.Prelude.{◌≡◌, ◌⊎◌, ◌<◌, ◌+◌, ℕ, List, [], ◌++◌, length, slice_index, slice_index_or}
use Rattle.turn_book.specs.Entries.{Entry}
use Rattle.turn_book.specs.Logs.{pick}
use Rattle.turn_book.specs.Views.{View, Book, IsReady, IsKept}
use Rattle.test_diary.specs.Entries.{entries, is_of}
use Rattle.test_diary.specs.declared.sessions.Work.{Work}

-- a session entered its first commands, in order
pub record Enters (session made : ℕ) (old new : View) : Type 0 where
  pub mine : new.mine ≡ old.mine ++ entries session made
  pub kept : IsKept old new

-- a piece of work before its session runs
pub record IsFresh (book : Book) (work : Work) : Type 0 where
  pub ready : IsReady book work.pass
  pub no_mine : work.pass.mine ≡ []
  pub no_joined : work.pass.joined ≡ []
  pub no_spare : work.pass.spare ≡ 0

-- a piece of work after its session ran
pub record IsRun (book : Book) (work : Work) : Type 0 where
  pub ready : IsReady book work.pass
  pub mine : work.pass.mine ≡ entries work.number work.told
  pub no_joined : work.pass.joined ≡ []
  pub no_spare : work.pass.spare ≡ 0

-- sessions count from 1, in order
abbrev pub Numbered : List Work → Type 0
Numbered works = (k : ℕ) (d : Work) → k < length works → (slice_index_or works k d).number ≡ k + 1

-- the pass of a piece of work
abbrev pub pass_of : Work → View
pass_of work = work.pass

-- the entries of its session
abbrev pub mine_of : Work → List Entry
mine_of work = work.pass.mine

-- how many commands its session entered
abbrev pub told_of : Work → ℕ
told_of work = work.told

-- all passes are split off
pub record SplitsAll (old new : View) : Type 0 where
  pub book : new.book ≡ old.book
  pub seen : new.seen ≡ old.seen
  pub mine : new.mine ≡ old.mine
  pub joined : new.joined ≡ old.joined
  pub turn : new.turn ≡ old.turn
  pub spare : new.spare ≡ 0

-- the log has each session's entries once and in order, and no others; session k + 1 reported how many commands it
-- entered
pub record Holds (told : List ℕ) (log : List Entry) : Type 0 where
  pub each : (k : ℕ) → k < length told → pick (is_of (k + 1)) log ≡ entries (k + 1) (slice_index told k)
  pub others : (s : ℕ) → (s ≡ 0) ⊎ (length told < s) → pick (is_of s) log ≡ []
