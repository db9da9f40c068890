use Rattle.std.proofs.Common.{◌≡◌, take}
use Rattle.rv_workspace.specs.Picking.{among}
use Rattle.rv_workspace.proofs.reading.wanted_of.Given as goal

abbrev pub invariant-wanted : goal.invariant-wanted
invariant-wanted l = l.found ≡ among (take l.name-index l.wanted) l.names
