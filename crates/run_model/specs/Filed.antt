-- The files of a run as bytes, in terms of the model.
use Rattle.std.specs.Prelude.{List, map}
use Rattle.std.specs.String.{string_bytes}
use Rattle.run_model.specs.Inputs.{RelationFile}
use Rattle.run_model.specs.Page.{SavedFile}
use Rattle.run_model.specs.declared.files.Loaded.{Loaded}
use Rattle.run_model.specs.declared.files.Save.{Save}

-- a relation file named on the command line
abbrev pub file_of : Loaded → RelationFile
file_of f = record { name = string_bytes f.name; bytes = f.bytes.items }

-- a file written after the page
abbrev pub saved_of : Save → SavedFile
saved_of s = record { name = s.name; bytes = s.bytes.items }

-- all files written after the page
abbrev pub saved_all : List Save → List SavedFile
saved_all = map saved_of
