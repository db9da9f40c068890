use Rattle.run_model.specs.Texts.{mismatch_text}
use Rattle.rv_print.proofs.Chains.{part_more, where_more}
use Rattle.rv_print.proofs.faults.push_mismatch.Goals as goal

pub returns : goal.returns
unfolding mismatch_text
returns c =
    where_more _ _ _ _ _ _ c.push_shape-2.ensures (part_more _ _ _ _ _ c.in_ok-extend_from_slice.ensures.items (part_more _ _ _ _ _ c.in_ok-push_shape.ensures c.in_ok-push_said.ensures))
