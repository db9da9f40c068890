use Rattle.tree_blocks.proofs.Opening.{set_turned, set_plain}
use Rattle.tree_blocks.proofs.spill.open_name.Goals.{then-turned, else-turned}
use Rattle.tree_blocks.proofs.spill.open_name.Goals as goal

pub returns-clause-opened : goal.returns-clause-opened
returns-clause-opened c = elim c.if-turned.branch [
  | then-turned w ↦ set_turned _ _ _ _ _ _ _ _ w.if-turned.true w.t-20-is c.requires.room c.quarters.ensures.quarters
  | else-turned w ↦ set_plain _ _ _ _ _ _ _ _ w.if-turned.false w.t-20-is c.requires.room c.quarters.ensures.quarters
]
