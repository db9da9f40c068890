-- The sessions of batches, one batch behind the other, by their scripts and by what they told.
use Rattle.std.proofs.Common.{◌++◌, ℕ, List, [], ◌∷◌}
use Rattle.rv_sessions.specs.declared.transcript.Transcript.{Transcript}
use Rattle.rv_runs.specs.Past.{Part}
use Rattle.rv_runs.specs.Parts.{AreParts}

pub parts_append : (scripts others : List (List ℕ)) (told more : List Transcript) (parts qs : List Part) → AreParts scripts told parts → AreParts others more qs →
    AreParts (scripts ++ others) (told ++ more) (parts ++ qs)
parts_append [] others [] more [] qs h k = k
parts_append [] others [] more (part ∷ parts) qs h k = absurd h
parts_append [] others (t ∷ told) more parts qs h k = absurd h
parts_append (bytes ∷ scripts) others [] more parts qs h k = absurd h
parts_append (bytes ∷ scripts) others (t ∷ told) more [] qs h k = absurd h
parts_append (bytes ∷ scripts) others (t ∷ told) more (part ∷ parts) qs h k = (h.0, parts_append scripts others told more parts qs h.1 k)
