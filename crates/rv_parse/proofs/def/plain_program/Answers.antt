use Rattle.std.proofs.Common.{refl, sym, subst}
use Rattle.lang_model.specs.Spelling.{SpellsDecls}
use Rattle.rv_parse.proofs.def.plain_program.Goals as goal

pub returns : goal.returns
returns c =
    let tail = c.in_ok-tail.ensures in
    let s = tail.spelled in
    record {
      spelled = λ before mid head beg. (mid, mid, c.args.tokens.now, s.0, s.1, s.2, head, subst (λ xs. SpellsDecls xs mid mid) (sym c.new-decls.ensures.items) refl, beg, s.3, s.4, s.5, s.6);
      shorter = tail.shorter;
      read = tail.read;
    }
