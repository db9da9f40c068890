use Rattle.k2_file.specs.Told.{bits_told}
use Rattle.k2_file.proofs.ReadStarts.{AreStarts}
use Rattle.k2_file.proofs.starts.starts.Given as goal

abbrev pub invariant-levels : goal.invariant-levels
invariant-levels l = AreStarts (bits_told l.tree.count l.tree.bytes.now) l.fn.cell_count l.fn.height l.fn.groups l.level l.places l.groups l.from
