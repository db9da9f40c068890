-- The faults of a text that is not a script.
use Rattle.std.specs.Prelude.{◌≡◌, ℕ, List, None, Some}
use Rattle.lang_model.specs.declared.syntax.Script.{Script}
use Rattle.lang_model.specs.declared.faults.ParseFault.{ParseFault}
use Rattle.lang_model.specs.declared.faults.ParseFault.TheVariants.{NoMemory}
use Rattle.lang_model.specs.Spelling.{SpelledBy}
use Rattle.lang_model.specs.Stop.{stop}
use Rattle.rv_parse.specs.Halts.{fault_of}
use Rattle.rv_parse.specs.declared.halt.Wanted.{Wanted}
use Rattle.rv_parse.specs.declared.halt.Wanted.TheVariants.{Sign, Word}
use Rattle.rv_tokens.specs.declared.ending.Flaw.TheVariants.{Unclosed}
use Rattle.rv_parse.specs.declared.halt.Halt.{Halt}
use Rattle.rv_parse.specs.declared.halt.Halt.TheVariants.{Expected as EXPECTED, Broken as BROKEN_OFF, NoMemory as NO_MEMORY}

-- The fault is right for these bytes: either memory ran out, or it is the first fault of the text, with its place and
-- words, and the bytes spell no script.
abbrev pub StopsAt : List ℕ → ParseFault → Type 0
StopsAt bytes fault = (fault ≡ NoMemory → ⊥) → (stop bytes ≡ Some fault)
    × ((script : Script) → SpelledBy bytes script → ⊥)

-- the fault that ended the parse, unless memory ran out
abbrev pub IsFaultOf : Halt → ParseFault → Type 0
IsFaultOf halt fault = (fault ≡ NoMemory → ⊥) → fault ≡ fault_of halt

-- a token is expected, and the fault holds its text
abbrev pub IsToken : Wanted → Type 0
IsToken (Sign s) = Unit {0}
IsToken (Word keyword) = Unit {0}
IsToken _ = ⊥

-- Reporting a fault may take memory only if a token is expected, a closing quote is missing, or memory ran out before.
abbrev pub TakesMemory : Halt → Type 0
TakesMemory (EXPECTED at wanted) = IsToken wanted
TakesMemory (BROKEN_OFF (Unclosed at)) = Unit {0}
TakesMemory NO_MEMORY = Unit {0}
TakesMemory _ = ⊥

-- a text that spells a script has no fault
abbrev pub ScriptsHaveNoFault : Type 0
ScriptsHaveNoFault = (bytes : List ℕ) (script : Script) → SpelledBy bytes script → stop bytes ≡ None
