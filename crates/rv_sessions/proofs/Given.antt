-- What a session is given beside its script.
use Rattle.std.proofs.Common.{◌≡◌, ℕ, List, map, refl}
use Rattle.run_model.specs.declared.files.Loaded.{Loaded}
use Rattle.run_model.specs.Filed.{file_of}
use Rattle.rv_sessions.specs.Telling.{input_of}

pub given_turns : (files : List Loaded) (turns : ℕ) → (input_of files turns).turns ≡ turns
unfolding input_of
given_turns files turns = refl

pub given_files : (files : List Loaded) (turns : ℕ) → (input_of files turns).files ≡ map file_of files
unfolding input_of
given_files files turns = refl
