use Rattle.rel_images.proofs.Words.{AreMeetings}
use Rattle.rel_images.proofs.leaf.columns_image.Given as goal

abbrev pub invariant-rows : goal.invariant-rows
invariant-rows l = AreMeetings l.side l.bits l.line l.t l.all
