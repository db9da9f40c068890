-- The turns of one session: each took a log that begins with everything the session had seen, and appended one entry.
use Rattle.std.specs.Prelude.{◌≡◌, Bool, List, [], ◌∷◌, ◌++◌}
use Rattle.turn_book.specs.Entries.{Entry}
use Rattle.turn_book.specs.Logs.{Begins, pick}

-- the log that was taken, and the entry that was appended
abbrev pub Turn : Type 0
Turn = List Entry × Entry

-- the entry of a turn
abbrev pub entry_of : Turn → Entry
entry_of t = t.1

-- the turns of a session that had seen one log before them, and another after them
abbrev pub Turns : List Turn → List Entry → List Entry → Type 0
Turns [] old new = Begins old new
Turns (t ∷ ts) old new = Begins old t.0 × Turns ts (t.0 ++ t.1 ∷ []) new

-- each turn's log precedes the turn's entry in a log, and of the session's entries it has exactly the earlier ones:
-- those done before, and those of the turns before it
abbrev pub Stand : (Entry → Bool) → List Entry → List Turn → List Entry → Type 0
Stand is done [] log = Unit {0}
Stand is done (t ∷ ts) log = ((rest : List Entry) × (log ≡ t.0 ++ t.1 ∷ rest)) × (pick is t.0 ≡ done)
    × Stand is (done ++ t.1 ∷ []) ts log

-- one of the turns took exactly what precedes this entry, and put it there
abbrev pub IsTurnOf : List Turn → List Entry → Entry → Type 0
IsTurnOf ts before e = (earlier later : List Turn) × (t : Turn) × (ts ≡ earlier ++ t ∷ later) × (t.0 ≡ before)
    × (t.1 ≡ e)
