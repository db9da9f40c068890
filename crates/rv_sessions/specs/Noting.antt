-- The result of an item, as it is noted.
use Rattle.std.specs.Prelude.{◌≡◌, ◌≤◌, ℕ, List, [], ◌∷◌, ◌++◌, vec_len, vec_capacity, Result, Ok, Err}
use Rattle.rel_model.specs.declared.NoMemory.{NoMemory}
use Rattle.run_model.specs.declared.outcome.Outcome.{Outcome}
use Rattle.run_model.specs.declared.outcome.Outcome.TheVariants.{NoMemory as NO_MEMORY}
use Rattle.run_model.specs.Page.{SavedFile}
use Rattle.run_model.specs.Texts.{prefix, refusal_text}
use Rattle.rv_sessions.specs.declared.told.Told.{Told}
use Rattle.rv_sessions.specs.declared.transcript.Transcript.{Transcript}
use Rattle.run_model.specs.Page.{refusals}
use Rattle.rv_sessions.specs.Telling.{text_of, saved_by, texts_of}

-- its outcome
abbrev pub outcome_in : Result Told NoMemory → Outcome
outcome_in (Ok told) = told.outcome
outcome_in (Err lack) = NO_MEMORY

-- its reply, with the numbers of its session and of itself
abbrev pub text_in : ℕ → ℕ → Result Told NoMemory → List ℕ
text_in s c (Ok told) = text_of told.reply
text_in s c (Err lack) = prefix s c ++ refusal_text NO_MEMORY

-- the files that it saves
abbrev pub saved_in : Result Told NoMemory → List SavedFile
saved_in (Ok told) = saved_by told.save
saved_in (Err lack) = []

-- empty lists with room for `room` items
pub record IsBare (room : ℕ) (lists : Transcript) : Type 0 where
  pub replies : lists.replies.items ≡ []
  pub saves : lists.saves.items ≡ []
  pub outcomes : lists.outcomes.items ≡ []
  pub replies_len : vec_len lists.replies ≡ 0
  pub saves_len : vec_len lists.saves ≡ 0
  pub outcomes_len : vec_len lists.outcomes ≡ 0
  pub replies_room : room ≤ vec_capacity lists.replies
  pub saves_room : room ≤ vec_capacity lists.saves
  pub outcomes_room : room ≤ vec_capacity lists.outcomes

-- one outcome, with number 0, and no file
pub record TellsOne (s : ℕ) (outcome : Outcome) (told : Transcript) : Type 0 where
  pub outcomes : told.outcomes.items ≡ outcome ∷ []
  pub text : texts_of told.replies.items ≡ refusals s (outcome ∷ [])
  pub saved : told.saves.items ≡ []
