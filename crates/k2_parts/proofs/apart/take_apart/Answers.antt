-- The tests of the header, of the quadrants, and of what is behind them.
use Rattle.std.proofs.Common.{sym}
use Rattle.k2_parts.proofs.Joining.{fault-header, fault-quads, fault-rest, no-fault, are-quads, are-heights, are-roots}
use Rattle.k2_parts.proofs.apart.take_apart.Goals as goal

pub returns-in-Err-clause-fault : goal.returns-in-Err-clause-fault
returns-in-Err-clause-fault c = fault-header c.args.bytes.now c.in-Err.fault (sym c.in-Err.ensures.fault)

pub returns-in-Err-read_quads-clause-fault : goal.returns-in-Err-read_quads-clause-fault
returns-in-Err-read_quads-clause-fault c =
    fault-quads c.args.bytes.now c.in-Ok.header c.in-Ok.ensures.header (sym c.in-Ok.ensures.fault) c.in-Err-read_quads.fault c.in-Err-read_quads.ensures.fault

pub returns-in-Ok-read_rest-clause-form : goal.returns-in-Ok-read_rest-clause-form
returns-in-Ok-read_rest-clause-form c =
    let bytes = c.args.bytes.now in
    let k = c.in-Ok.ensures.header in
    let none = sym c.in-Ok.ensures.fault in
    let l = c.in-Ok-read_quads.listed in
    let a = c.in-Ok-read_quads.ensures.listed in
    let r = c.in-Ok-read_rest.ensures.roots in
    record {
      passes = no-fault bytes c.in-Ok.header k none l a _ _ c.as_slice.ensures.value c.as_slice-2.ensures.value _ c.end.ensures r.passes;
      quads = are-quads bytes c.in-Ok.header k none l a _ _ c.as_slice.ensures.value c.as_slice-2.ensures.value _ c.end.ensures;
      heights = are-heights bytes c.in-Ok.header k none l a _ _ c.as_slice.ensures.value c.as_slice-2.ensures.value _ c.end.ensures;
      roots = are-roots bytes c.in-Ok.header k none l a _ _ c.as_slice.ensures.value c.as_slice-2.ensures.value _ c.end.ensures c.in-Ok-read_rest.roots.items r.told;
    }

pub returns-in-Err-read_rest-clause-fault : goal.returns-in-Err-read_rest-clause-fault
returns-in-Err-read_rest-clause-fault c =
    fault-rest c.args.bytes.now c.in-Ok.header c.in-Ok.ensures.header (sym c.in-Ok.ensures.fault) c.in-Ok-read_quads.listed c.in-Ok-read_quads.ensures.listed _ _ c.as_slice.ensures.value
    c.as_slice-2.ensures.value _ c.end.ensures c.in-Err-read_rest.fault c.in-Err-read_rest.ensures.fault
