use Rattle.k2_file.proofs.WriteBytes.{two-added}
use Rattle.k2_file.proofs.write.push_counts.Goals as goal

pub returns : goal.returns
returns c = two-added _ _ _ _ _ _ c.in_ok-push_u64.ensures c.push_u64-2.ensures
