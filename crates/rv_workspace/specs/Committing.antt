-- What a commit answers, and what it enters into the history.
use Rattle.std.specs.Prelude.{◌≡◌, ◌++◌, nat_eq, ℕ, cond, List, [], ◌∷◌, Option, Some, None, Result, Ok, Err}
use Rattle.rel_model.specs.declared.Rel.{Rel}
use Rattle.run_model.specs.declared.event.Event.{Event}
use Rattle.run_model.specs.Versions.{Change, Versions, version_behind}
use Rattle.run_model.specs.Carried.{Carried}
use Rattle.name_map.specs.Giving.{set_all}
use Rattle.rv_workspace.specs.declared.refused.CommitRefused.{CommitRefused}
use Rattle.rv_workspace.specs.declared.refused.CommitRefused.TheVariants.{Changed, NoMemory}
use Rattle.rv_workspace.specs.Entering.{read_of, assigns}

-- the first of the names that were read whose version differs from the one noted beside it; versions are those after a
-- history that began with these
abbrev pub change_since : Versions → List (List ℕ × ℕ) → List Event → Option Change
change_since first [] history = None
change_since first (read ∷ reads) history =
    cond (nat_eq (version_behind first history read.0) read.1) (change_since first reads history)
    (Some (record { name = read.0; seen = read.1; found = version_behind first history read.0 }))

-- a refused commit reports the name that changed, with its two versions
abbrev pub IsCommitRefusal : Option Change → CommitRefused → Type 0
IsCommitRefusal change (Changed name seen found) =
    change ≡ Some (record { name = name; seen = seen; found = found })
IsCommitRefusal change NoMemory = Unit {0}

-- a commit is made only if no name changed
abbrev pub IsCommitAnswer : Option Change → Result (Unit {0}) CommitRefused → Type 0
IsCommitAnswer change (Ok done) = change ≡ None
IsCommitAnswer change (Err refused) = IsCommitRefusal change refused

-- a refused commit enters a read if a name changed, and nothing if memory ran out
abbrev pub refused_entries : ℕ → ℕ → CommitRefused → List Event
refused_entries session command (Changed name seen found) = read_of session command ∷ []
refused_entries session command NoMemory = []

-- a commit that is made enters all its assignments
abbrev pub commit_entries : ℕ → ℕ → List (List ℕ × Rel) → Result (Unit {0}) CommitRefused → List Event
commit_entries session command list (Ok done) = assigns session command list
commit_entries session command list (Err refused) = refused_entries session command refused

-- a commit that is made assigns its names their relations, and a refused one changes no name
abbrev pub committed : List (List ℕ × Rel) → Result (Unit {0}) CommitRefused → Carried → Carried
committed list (Ok done) names = set_all list names
committed list (Err refused) names = names

-- either a change is reported and a read is entered, or memory ran out and nothing is entered
pub record ChangeTold (session command : ℕ) (read : List ℕ × ℕ) (found : ℕ) (old new : List Event)
    (refused : CommitRefused) : Type 0 where
  pub told : IsCommitRefusal (Some (record { name = read.0; seen = read.1; found = found })) refused
  pub entered : new ≡ old ++ refused_entries session command refused
