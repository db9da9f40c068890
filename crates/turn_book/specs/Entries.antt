-- The entries of a log.
use Rattle.run_model.specs.declared.event.Event.{Event}

-- an entry is an event of the workspace
abbrev pub Entry : Type 0
Entry = Event
