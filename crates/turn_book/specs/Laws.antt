-- The laws of logs, turns and joined passes, as the public functions of `laws.rt` promise them.
use Rattle.std.specs.Prelude.{◌≡◌, ◌≢◌, ◌<◌, ℕ, Bool, true, List, [], ◌∷◌, ◌++◌, length, map, get_or}
use Rattle.turn_book.specs.Entries.{Entry}
use Rattle.turn_book.specs.Logs.{Begins, MakeUp, pick}
use Rattle.turn_book.specs.Turns.{Turn, entry_of, Turns, Stand, IsTurnOf}
use Rattle.turn_book.specs.Views.{View, with_other}
use Rattle.turn_book.specs.Joined.{JoinsAll}

-- if lists make up a log, a test that passes all entries of one list, and none of any other, picks that list from the
-- log
abbrev pub PicksItsOwn : Type 0
PicksItsOwn = (is : Entry → Bool) (lists : List (List Entry)) (log : List Entry) (k : ℕ) → MakeUp lists log
    → k < length lists → pick is (get_or lists k []) ≡ get_or lists k []
    → ((j : ℕ) → j ≢ k → pick is (get_or lists j []) ≡ [])
    → pick is log ≡ get_or lists k []

-- if lists make up a log, a test that passes no entry of any list picks nothing from the log
abbrev pub PicksNone : Type 0
PicksNone = (is : Entry → Bool) (lists : List (List Entry)) (log : List Entry) → MakeUp lists log
    → ((j : ℕ) → pick is (get_or lists j []) ≡ []) → pick is log ≡ []

-- if the entries of a log that pass a test are those of one session's turns, each turn took what precedes its entry in
-- the log
abbrev pub TurnsStand : Type 0
TurnsStand = (is : Entry → Bool) (ts : List Turn) (old new log : List Entry) → Turns ts old new → Begins new log
    → pick is (map entry_of ts) ≡ map entry_of ts → pick is log ≡ pick is old ++ map entry_of ts
    → Stand is (pick is old) ts log

-- then each entry of the session in the log belongs to a turn, which took exactly what precedes the entry
abbrev pub EachIsTurn : Type 0
EachIsTurn = (is : Entry → Bool) (ts : List Turn) (log before after : List Entry) (e : Entry) → Stand is [] ts log
    → pick is (map entry_of ts) ≡ map entry_of ts → pick is log ≡ map entry_of ts → log ≡ before ++ e ∷ after
    → is e ≡ true → IsTurnOf ts before e

-- one more pass is joined after others
abbrev pub JoinsOneMore : Type 0
JoinsOneMore = (passes : List View) (other old mid new : View) → JoinsAll passes old mid → new ≡ with_other mid other
    → Begins mid.seen new.seen → Begins other.seen new.seen → JoinsAll (passes ++ other ∷ []) old new
