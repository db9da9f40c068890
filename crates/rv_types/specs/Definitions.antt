-- Definitions as the walk over a script keeps them.
use Rattle.std.specs.Prelude.{ℕ, List}
use Rattle.lang_model.specs.Checking.{Known}
use Rattle.rv_types.specs.declared.definitions.Summary.{Summary}

-- a definition with this name
abbrev pub known_as : List ℕ → Summary → Known
known_as name summary = record { name = name; takes = summary.takes; rank = summary.rank }

-- what a call needs to know of a definition
abbrev pub summary_of : Known → Summary
summary_of known = record { takes = known.takes; rank = known.rank }
