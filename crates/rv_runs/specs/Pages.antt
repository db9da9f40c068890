-- The page and the files of a run, made from the answers of its sessions.
use Rattle.std.specs.Prelude.{ℕ, Bool, cond, List, [], ◌++◌}
use Rattle.std.specs.List.{flat_map}
use Rattle.run_model.specs.declared.event.Event.{Event}
use Rattle.run_model.specs.Page.{SavedFile, event_line}
use Rattle.rv_sessions.specs.declared.transcript.Transcript.{Transcript}
use Rattle.run_model.specs.Filed.{saved_all}
use Rattle.rv_sessions.specs.Telling.{texts_of}

-- the replies of a session
abbrev pub text_of_session : Transcript → List ℕ
text_of_session t = texts_of t.replies.items

-- the files of a session
abbrev pub saved_by_session : Transcript → List SavedFile
saved_by_session t = saved_all t.saves.items

-- the replies of all sessions, and then a line for each event if the history is wanted
abbrev pub page_told : List Transcript → List Event → Bool → List ℕ
page_told told history asked = flat_map text_of_session told ++ cond asked (flat_map event_line history) []
