use Rattle.std.proofs.Common.{◌++◌}
use Rattle.std.specs.Prelude.{codes}
use Rattle.std.specs.Int.{w32, w64, to_be_bytes}
use Rattle.k2_file.proofs.WriteBytes.{header-added}
use Rattle.k2_file.proofs.write.push_header.Goals as goal

pub returns : goal.returns
returns c =
    header-added c.push_counts.result c.args.out.now.items c.extend_from_slice.new.self.items c.push_u32.new.out.items c.push_u32-2.new.out.items c.push.new.self.items c.push_counts.new.out.items
    (codes "RVK1") (to_be_bytes w32 c.args.rel.rows) (to_be_bytes w32 c.args.rel.cols) (to_be_bytes w64 c.args.tree ++ to_be_bytes w64 c.args.cells) c.args.height
    c.in_ok-extend_from_slice.ensures.items c.in_ok-push_u32.ensures c.in_ok-push_u32-2.ensures c.in_ok-push.ensures.items c.push_counts.ensures
