use Rattle.std.proofs.Common.{◌≡◌, ◌||◌, ℕ, List, drop}
use Rattle.lang_model.specs.Checking.{among, parameter_faults}
use Rattle.rv_types.specs.Found.{told, noted}
use Rattle.rv_types.proofs.head.check_parameters.Given as goal

abbrev pub invariant-each : goal.invariant-each
invariant-each l =
    (noted (told l.so_far) (parameter_faults l.at l.fn.before l.params) ≡ noted (told l.found) (parameter_faults l.at l.before (drop l.param-index l.params)))
    × ((n : List ℕ) → (among l.params n || among l.fn.before n) ≡ (among (drop l.param-index l.params) n || among l.before n))
