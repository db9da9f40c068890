-- What sessions enter into a diary.
use Rattle.std.specs.Prelude.{ℕ, zero, suc, Bool, List, [], ◌∷◌, ◌++◌, eqb}
use Rattle.turn_book.specs.Entries.{Entry}
use Rattle.run_model.specs.declared.event.Act.TheVariants.{Read}

-- the entry of a command
abbrev pub entry : ℕ → ℕ → Entry
entry session command = record { session = session; command = command; act = Read }

-- the entries of the first commands of a session, in order
abbrev pub entries : ℕ → ℕ → List Entry
entries session zero = []
entries session (suc n) = entries session n ++ entry session (suc n) ∷ []

-- whether an entry belongs to a session
abbrev pub is_of : ℕ → Entry → Bool
is_of session e = eqb e.session session
