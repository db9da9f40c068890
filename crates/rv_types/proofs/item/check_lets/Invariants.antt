use Rattle.std.proofs.Common.{◌≡◌, drop}
use Rattle.lang_model.specs.Checking.{let_faults}
use Rattle.rv_types.specs.Found.{told, noted}
use Rattle.rv_types.specs.Scopes.{scope_of}
use Rattle.rv_types.proofs.item.check_lets.Given as goal

abbrev pub invariant-lets : goal.invariant-lets
invariant-lets l = noted (told l.so_far) (let_faults (scope_of l.scope) l.lets) ≡ noted (told l.found) (let_faults (scope_of l.scope) (drop l.assignment-index l.lets))
