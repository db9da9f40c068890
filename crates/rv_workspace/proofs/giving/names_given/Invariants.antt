use Rattle.std.proofs.Common.{◌≡◌, take}
use Rattle.run_model.specs.Names.{names_of}
use Rattle.rv_workspace.proofs.giving.names_given.Given as goal

abbrev pub invariant-list : goal.invariant-list
invariant-list l = l.given.items ≡ names_of (take l.gift-index l.list)
