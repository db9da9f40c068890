use Rattle.rel_images.proofs.Words.{AreRows}
use Rattle.rel_images.proofs.leaf.rows_image.Given as goal

abbrev pub invariant-rows : goal.invariant-rows
invariant-rows l = AreRows l.side l.bits l.line l.t l.all
