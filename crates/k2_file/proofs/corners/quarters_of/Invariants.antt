use Rattle.std.proofs.Common.{◌≡◌, take}
use Rattle.std.specs.List.{flat_map}
use Rattle.run_model.specs.Files.{quarters}
use Rattle.k2_file.proofs.corners.quarters_of.Given as goal

abbrev pub invariant-corners : goal.invariant-corners
invariant-corners l = l.out.items ≡ flat_map (quarters l.side) (take l.corner-index l.corners)
