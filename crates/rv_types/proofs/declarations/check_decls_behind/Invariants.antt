use Rattle.std.proofs.Common.{◌≡◌, drop}
use Rattle.lang_model.specs.Checking.{decl_faults}
use Rattle.rv_types.specs.Found.{told, noted}
use Rattle.rv_types.proofs.declarations.check_decls_behind.Given as goal

abbrev pub invariant-each : goal.invariant-each
invariant-each l = noted (told l.so_far) (decl_faults l.parameters l.fn.before l.decls) ≡ noted (told l.found) (decl_faults l.parameters l.before (drop l.decl-index l.decls))
