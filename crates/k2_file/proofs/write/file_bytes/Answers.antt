use Rattle.std.proofs.Common.{arith}
use Rattle.k2_file.proofs.WriteBytes.{parts-added}
use Rattle.k2_file.proofs.write.file_bytes.Goals as goal

pub returns : goal.returns
returns c =
    parts-added c.new-out.result.items c.push_header.new.out.items c.push_packed.new.out.items c.push_packed-2.new.out.items c.args.rel.rows c.args.rel.cols c.args.height c.len.result c.len-2.result
    c.deref.result.now c.deref-2.result.now c.args.parts.now.tree.items c.args.parts.now.cells.items
    c.new-out.ensures.items c.in_ok-push_header.ensures c.in_ok-push_packed.ensures c.in_ok-push_packed-2.ensures c.deref.ensures.value c.deref-2.ensures.value
    (omega (arith, c.len.ensures)) (omega (arith, c.len-2.ensures))
