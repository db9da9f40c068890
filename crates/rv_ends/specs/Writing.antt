-- What a sink has taken after a text, and what a shelf has after files were put.
use Rattle.std.specs.Prelude.{◌≡◌, ◌≢◌, ◌++◌, ℕ, cond, List, [], ◌∷◌, Option, Some, None}
use Rattle.lang_model.specs.Tokens.{same_text}
use Rattle.run_model.specs.Page.{SavedFile}
use Rattle.rv_io.specs.Outside.{Files, Told, Rose}
use Rattle.rv_io.specs.Writing.{Grows, HasSent}

-- ---- texts
-- what a sink holds, and how many of its writes failed
pub record Sunk : Type 0 where
  pub written : Option (List ℕ)
  pub faults : ℕ

-- what a sink reports
abbrev pub sunk : Option (List ℕ) → ℕ → Sunk
sunk written faults = record { written = written; faults = faults }

-- a text was written: as a whole, with this status; or, with status 4, a part of it, because a write failed
pub data IsWritten (old new : Sunk) (text : List ℕ) (whole status : ℕ) : Type 0 where
  Whole : status ≡ whole → Grows old.written new.written text → IsWritten old new text whole status
  Part : (sent : ℕ) → status ≡ 4 → HasSent old.written new.written text sent → Rose old.faults new.faults
      → IsWritten old new text whole status

-- nothing was written, because memory ran out
pub record IsOut (old new : Sunk) (status : ℕ) : Type 0 where
  pub out : status ≡ 5
  pub silent : new.written ≡ old.written

-- ---- files
-- the files with one more put
abbrev pub with_file : Files → SavedFile → Files
with_file files save name = cond (same_text save.name name) (Some save.bytes) (files name)

-- the files with these put in order
abbrev pub with_files : Files → List SavedFile → Files
with_files files [] = files
with_files files (save ∷ saves) = with_files (with_file files save) saves

-- the files are those from before with these put in order; files that are reported after the puts were reported before
-- them
abbrev pub HasPut : Option Files → Option Files → List SavedFile → Type 0
HasPut old None saves = Unit {0}
HasPut None (Some now) saves = ⊥
HasPut (Some before) (Some now) saves = (name : List ℕ) → now name ≡ with_files before saves name

-- the same for all names but one
abbrev pub HasPutBut : Option Files → Option Files → List SavedFile → List ℕ → Type 0
HasPutBut old None saves lost = Unit {0}
HasPutBut None (Some now) saves lost = ⊥
HasPutBut (Some before) (Some now) saves lost = (name : List ℕ) → name ≢ lost → now name ≡ with_files before saves name

-- a put failed: those before it were made, none after it was tried, and nothing is known about its own file
pub record HasLost (old new : Told) (saves : List SavedFile) : Type 0 where
  pub made : List SavedFile
  pub lost : SavedFile
  pub rest : List SavedFile
  pub place : saves ≡ made ++ lost ∷ rest
  pub put : HasPutBut old.files new.files made lost.name
  pub rose : Rose old.put_faults new.put_faults

-- ---- both
-- the shelf is as it was: no put was tried
pub record HasNoPut (old new : Told) : Type 0 where
  pub files : new.files ≡ old.files
  pub put_faults : new.put_faults ≡ old.put_faults

-- A page was written and then its files were put: both as a whole, with this status; or, with status 4, a part of the
-- page and no file, because a write failed; or, with status 4, the whole page and the files before one of them, because
-- its put failed.
pub data IsTold (shelf_old shelf_new : Told) (old new : Sunk) (page : List ℕ) (saves : List SavedFile)
    (whole status : ℕ) : Type 0 where
  Told_whole : status ≡ whole → Grows old.written new.written page → HasPut shelf_old.files shelf_new.files saves
      → IsTold shelf_old shelf_new old new page saves whole status
  Unwritten : (sent : ℕ) → status ≡ 4 → HasSent old.written new.written page sent → Rose old.faults new.faults
      → HasNoPut shelf_old shelf_new → IsTold shelf_old shelf_new old new page saves whole status
  Unput : status ≡ 4 → Grows old.written new.written page → HasLost shelf_old shelf_new saves
      → IsTold shelf_old shelf_new old new page saves whole status
