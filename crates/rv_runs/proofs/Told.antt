-- What a session told of its script, where it told anything.
use Rattle.std.proofs.Common.{◌≡◌, ◌<◌, ℕ, zero, suc, List, [], ◌∷◌, length, map, get_or, Result, Ok, Err, Vec, Global, ap, subst, arith}
use Rattle.std.specs.Prelude.{IfOk, IfSome}
use Rattle.std.specs.Result.{result_ok}
use Rattle.rel_model.specs.Worker.{Worker}
use Rattle.rel_model.specs.declared.NoMemory.{NoMemory}
use Rattle.run_model.specs.Inputs.{Input}
use Rattle.turn_book.specs.Views.{View}
use Rattle.rv_sessions.specs.declared.transcript.Transcript.{Transcript}
use Rattle.rv_sessions.specs.Sessions.{RanBytes}
use Rattle.rv_runs.specs.Works.{HasRun}

-- a new worker and a new pass ran these bytes
pub has_run : (leaf : ℕ) (given : Input) (s : ℕ) (bytes script : List ℕ) (first own : Worker) (before pass : View) (answer : Result Transcript NoMemory)
    → script ≡ bytes → first.made ≡ 0 → first.misses ≡ 0 → before.seen ≡ [] → before.mine ≡ [] → pass.start ≡ before.start → IfOk answer (RanBytes leaf given s script first own before pass)
    → IfSome (result_ok answer) (HasRun leaf given s bytes own pass)
has_run leaf given s bytes script first own before pass (Ok told) is made misses seen mine start ran = record {
  first = first;
  before = before;
  ran = subst (λ (l : List ℕ). RanBytes leaf given s l first own before pass told) is ran;
  no_made = made;
  no_misses = misses;
  no_seen = seen;
  no_mine = mine;
  same_start = start;
}
has_run leaf given s bytes script first own before pass (Err lack) is made misses seen mine start ran = tt

-- the bytes of the script at a place
pub bytes_at : (scripts : List (Vec ℕ Global)) (k : ℕ) (script d : Vec ℕ Global) → k < length scripts → script ≡ get_or scripts k d → script.items ≡ get_or (map (λ v. v.items) scripts) k []
bytes_at [] k script d l e = absurd (omega (arith, l))
bytes_at (v ∷ vs) zero script d l e = ap (λ (w : Vec ℕ Global). w.items) e
bytes_at (v ∷ vs) (suc k) script d l e = bytes_at vs k script d (omega (arith, l)) e
