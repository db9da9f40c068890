use Rattle.std.proofs.Common.{◌-◌, arith}
use Rattle.std.proofs.lemmas.Nat.{shl_whole}
use Rattle.k2_file.proofs.packing.filled.Goals as goal

pub returns : goal.returns
returns c = shl_whole c.args.value c.args.held (8 - c.args.held) 8 c.requires.value (omega arith)
