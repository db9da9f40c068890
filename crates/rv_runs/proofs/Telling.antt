-- What the parts of a batch tell is what its transcripts tell, in order.
use Rattle.std.specs.List.{flat_map}
use Rattle.std.proofs.Common.{◌≡◌, ◌++◌, ℕ, suc, List, [], ◌∷◌, length, map, refl, ap}
use Rattle.rv_sessions.specs.declared.transcript.Transcript.{Transcript}
use Rattle.rv_runs.specs.Past.{Part, scripts_of, outcomes_of, text_of, files_of}
use Rattle.rv_runs.specs.Parts.{AreParts}
use Rattle.rv_runs.specs.Pages.{text_of_session, saved_by_session}

-- their replies
pub text_by : (scripts : List (List ℕ)) (told : List Transcript) (parts : List Part) → AreParts scripts told parts →
    text_of parts ≡ flat_map text_of_session told
text_by [] [] [] h = refl
text_by [] [] (p ∷ ps) h = absurd h
text_by [] (t ∷ ts) ps h = absurd h
text_by (b ∷ bs) [] ps h = absurd h
text_by (b ∷ bs) (t ∷ ts) [] h = absurd h
text_by (b ∷ bs) (t ∷ ts) (p ∷ ps) h = λ i. (h.0.1 i).text ++ text_by bs ts ps h.1 i

-- their files
pub saved_by : (scripts : List (List ℕ)) (told : List Transcript) (parts : List Part) → AreParts scripts told parts →
    files_of parts ≡ flat_map saved_by_session told
saved_by [] [] [] h = refl
saved_by [] [] (p ∷ ps) h = absurd h
saved_by [] (t ∷ ts) ps h = absurd h
saved_by (b ∷ bs) [] ps h = absurd h
saved_by (b ∷ bs) (t ∷ ts) [] h = absurd h
saved_by (b ∷ bs) (t ∷ ts) (p ∷ ps) h = λ i. (h.0.1 i).saved ++ saved_by bs ts ps h.1 i

-- their outcomes
pub outcomes_by : (scripts : List (List ℕ)) (told : List Transcript) (parts : List Part) → AreParts scripts told parts →
    outcomes_of parts ≡ map (λ t. t.outcomes.items) told
outcomes_by [] [] [] h = refl
outcomes_by [] [] (p ∷ ps) h = absurd h
outcomes_by [] (t ∷ ts) ps h = absurd h
outcomes_by (b ∷ bs) [] ps h = absurd h
outcomes_by (b ∷ bs) (t ∷ ts) [] h = absurd h
outcomes_by (b ∷ bs) (t ∷ ts) (p ∷ ps) h = λ i. (h.0.1 i).outcomes ∷ outcomes_by bs ts ps h.1 i

-- their scripts
pub scripts_by : (scripts : List (List ℕ)) (told : List Transcript) (parts : List Part) → AreParts scripts told parts →
    scripts_of parts ≡ scripts
scripts_by [] [] [] h = refl
scripts_by [] [] (p ∷ ps) h = absurd h
scripts_by [] (t ∷ ts) ps h = absurd h
scripts_by (b ∷ bs) [] ps h = absurd h
scripts_by (b ∷ bs) (t ∷ ts) [] h = absurd h
scripts_by (b ∷ bs) (t ∷ ts) (p ∷ ps) h = λ i. (h.0.1 i).bytes ∷ scripts_by bs ts ps h.1 i

-- there are as many
pub parts_as_many : (scripts : List (List ℕ)) (told : List Transcript) (parts : List Part) → AreParts scripts told parts →
    length parts ≡ length scripts
parts_as_many [] [] [] h = refl
parts_as_many [] [] (p ∷ ps) h = absurd h
parts_as_many [] (t ∷ ts) ps h = absurd h
parts_as_many (b ∷ bs) [] ps h = absurd h
parts_as_many (b ∷ bs) (t ∷ ts) [] h = absurd h
parts_as_many (b ∷ bs) (t ∷ ts) (p ∷ ps) h = ap suc (parts_as_many bs ts ps h.1)
