-- What the calls of a book do to the map of versions, whatever versions it began with.
use Rattle.std.specs.Prelude.{◌≡◌, ◌<◌, ◌+◌, ◌^◌, ℕ, List, length, Result}
use Rattle.run_model.specs.declared.event.Event.{Event}
use Rattle.run_model.specs.Versions.{Versions, noted, versions_after}
use Rattle.rv_workspace.specs.declared.refused.CommitRefused.{CommitRefused}
use Rattle.rv_workspace.specs.Committing.{change_since, IsCommitAnswer}

-- no version exceeds 2^63 - 1 by more than the number of events in this history
abbrev pub AreFewBehind : Versions → List Event → Type 0
AreFewBehind versions history = (name : List ℕ) → noted versions name < 2 ^ 63 + length history

-- a map with the versions after one history became one with those after another
abbrev pub StayCounted : Versions → List Event → Versions → List Event → Type 0
StayCounted old before new after =
    (first : Versions) → old ≡ versions_after first before → new ≡ versions_after first after

-- a commit on a map with the versions after a history answers according to these
abbrev pub AnswersByVersions : Versions → List Event → List (List ℕ × ℕ) → Result (Unit {0}) CommitRefused → Type 0
AnswersByVersions versions history reads result =
    (first : Versions) → versions ≡ versions_after first history
    → IsCommitAnswer (change_since first reads history) result
