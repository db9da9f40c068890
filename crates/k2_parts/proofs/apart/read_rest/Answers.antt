-- The roots, the order, and that no byte is left.
use Rattle.std.proofs.Common.{◌∙◌, [], List, length, sym, ap}
use Rattle.run_model.specs.SharedFiles.{first_out, visit_roots}
use Rattle.k2_parts.specs.declared.form.NamedRoot.{NamedRoot as NAMED}
use Rattle.k2_parts.specs.Told.{quadrants_told, roots_told}
use Rattle.k2_parts.proofs.Joining.{rest-roots, rest-order, rest-left, rest-none, out-told}
use Rattle.k2_parts.proofs.apart.read_rest.Goals as goal

pub returns-in-Err-read_roots-clause-fault : goal.returns-in-Err-read_roots-clause-fault
returns-in-Err-read_roots-clause-fault c =
    rest-roots (quadrants_told c.args.quads.now) c.args.heights.now c.args.count c.args.bytes.now c.in-Err-read_roots.fault c.in-Err-read_roots.ensures.fault

pub returns-in-Some-clause-fault : goal.returns-in-Some-clause-fault
returns-in-Some-clause-fault c =
    let quads = c.args.quads.now in
    let named = c.in-Ok-read_roots.named in
    let r = c.in-Ok-read_roots.ensures.roots in
    rest-order (quadrants_told quads) c.args.heights.now c.args.count c.args.bytes.now r.passes c.in-Some.at
    (out-told quads named.roots.items c.args.count c.args.bytes.now r.told
    ∙ (ap (λ (rs : List NAMED). first_out 2 (length quads) (visit_roots (quadrants_told quads) [] (roots_told rs))) (sym c.as_slice.ensures.value) ∙ sym c.in-Some.ensures))

pub returns-then-named-bytes-clause-fault : goal.returns-then-named-bytes-clause-fault
returns-then-named-bytes-clause-fault c =
    let quads = c.args.quads.now in
    let named = c.in-Ok-read_roots.named in
    let r = c.in-Ok-read_roots.ensures.roots in
    rest-left (quadrants_told quads) c.args.heights.now c.args.count c.args.bytes.now r.passes
    (out-told quads named.roots.items c.args.count c.args.bytes.now r.told
    ∙ (ap (λ (rs : List NAMED). first_out 2 (length quads) (visit_roots (quadrants_told quads) [] (roots_told rs))) (sym c.as_slice.ensures.value) ∙ sym c.in_default.ensures))
    (λ e. c.if-named-bytes.true (r.ends ∙ sym e))

pub returns-clause-roots : goal.returns-clause-roots
returns-clause-roots c =
    let quads = c.args.quads.now in
    let named = c.in-Ok-read_roots.named in
    let r = c.in-Ok-read_roots.ensures.roots in
    record {
      told = r.told;
      passes =
          rest-none (quadrants_told quads) c.args.heights.now c.args.count c.args.bytes.now r.passes
          (out-told quads named.roots.items c.args.count c.args.bytes.now r.told
          ∙ (ap (λ (rs : List NAMED). first_out 2 (length quads) (visit_roots (quadrants_told quads) [] (roots_told rs))) (sym c.as_slice.ensures.value) ∙ sym c.in_default.ensures))
          (sym c.if-named-bytes.false ∙ r.ends);
    }
