-- What a block reads, assignment by assignment.
use Rattle.std.specs.Prelude.{ℕ, List, [], ◌∷◌, cond, is_some}
use Rattle.lang_model.specs.declared.syntax.Let.{Let}
use Rattle.lang_model.specs.Eval.{names_in}
use Rattle.run_model.specs.Names.{Names, lookup, set}

-- a set with further names added, except those of another set
abbrev pub put_new : Names (Unit {0}) → List (List ℕ) → Names (Unit {0}) → Names (Unit {0})
put_new given [] found = found
put_new given (name ∷ names) found = put_new given names (cond (is_some (lookup given name)) found (set name tt found))

-- the names found so far, and those that the next assignments read, given the names to which earlier ones gave values
abbrev pub read_on : List Let → Names (Unit {0}) → Names (Unit {0}) → Names (Unit {0})
read_on [] given found = found
read_on (l ∷ ls) given found = read_on ls (set l.name tt given) (put_new given (names_in l.value) found)
