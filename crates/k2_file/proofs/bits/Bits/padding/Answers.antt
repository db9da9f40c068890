-- What is told of all bytes from the end on is what is behind it.
use Rattle.std.proofs.Common.{◌∙◌}
use Rattle.k2_file.proofs.ReadBits.{ones-padding}
use Rattle.k2_file.proofs.bits.Bits.padding.Goals as goal

pub returns : goal.returns
returns c = let bits = c.args.self.now in c.ones.ensures.value ∙ ones-padding bits.count bits.bytes.now bits.fits
