use Rattle.std.proofs.Common.{◌++◌, ◌∙◌, arith}
use Rattle.lang_model.specs.Stop.{program_parts}
use Rattle.rv_parse.proofs.def.declared_program.Goals as goal

pub returns : goal.returns
returns c =
    let decls = c.in_ok-decls.ensures in
    let tail = c.in_ok-tail.ensures in
    let d = decls.spelled in
    let s = tail.spelled in
    record {
      spelled = λ before mid head decl. (mid, d.0, c.in_ok-decls.rest.now, s.0, s.1, s.2, head, d.1 mid decl, d.2, s.3, s.4, s.5, s.6);
      shorter = omega (arith, decls.shorter, tail.shorter);
      read = λ behind. decls.read (program_parts ++ behind) ∙ tail.read behind;
    }
