use Rattle.std.proofs.Common.{◌≡◌, map, drop}
use Rattle.run_model.specs.Inputs.{file_named}
use Rattle.run_model.specs.Filed.{file_of}
use Rattle.rv_sessions.proofs.files.file_named.Given as goal

abbrev pub invariant-files : goal.invariant-files
invariant-files l = file_named (map file_of l.files) l.name ≡ file_named (map file_of (drop l.file-index l.files)) l.name
