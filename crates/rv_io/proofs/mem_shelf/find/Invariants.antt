use Rattle.std.proofs.Common.{◌≡◌, drop}
use Rattle.rv_io.specs.Memory.{file_at}
use Rattle.rv_io.proofs.mem_shelf.find.Given as goal

abbrev pub invariant-files : goal.invariant-files
invariant-files l = file_at (drop l.file-index l.files) l.name ≡ file_at l.files l.name
