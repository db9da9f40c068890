use Rattle.std.proofs.Common.{◌∷◌, ◌∙◌, inl, inr, ap, suc, arith, length}
use Rattle.std.proofs.lemmas.Result.{err_from_is_err_and}
use Rattle.lang_model.specs.Spelling.{looped, branched, branched_twice}
use Rattle.lang_model.specs.declared.token.Keyword.TheVariants.{Od as OD, Fi as FI}
use Rattle.lang_model.specs.Stop.{WordPart, StmtsPart, ElsePart}
use Rattle.rv_parse.proofs.Stmts.{drop_else, enter_else, drop_stmts, enter_stmts, stmts_step, stmts_last, stmts_all}
use Rattle.rv_parse.proofs.stmt.+stmt.Goals as goal

pub stmts_and_word-returns : goal.stmts_and_word-returns
stmts_and_word-returns t c =
    let body = c.in_ok-body.ensures in
    let word = c.in_ok-rest.ensures.read in
    record {
      spelled = (c.in_ok-body.rest.now, body.spelled, (_, word.0));
      shorter = omega (arith, body.shorter, ap length word.0);
      read = λ behind. body.read (WordPart c.args.keyword ∷ behind) ∙ word.1 behind;
    }

pub second_part-returns-in_err-rest-in-None : goal.second_part-returns-in_err-rest-in-None
second_part-returns-in_err-rest-in-None t c =
    let p = err_from_is_err_and c.from_residual-in_err-rest-in-None.result c.from_residual-in_err-rest-in-None.ensures.1 in
    rw (p.1, p.2) (λ n behind. drop_else (suc c.args.depth) c.args.tokens.now _ (WordPart FI ∷ behind) c.in-None.ensures ∙ c.in_err-rest-in-None.ensures.read n behind)

pub second_part-returns-in_ok-no-in-Some : goal.second_part-returns-in_ok-no-in-Some
second_part-returns-in_ok-no-in-Some t c =
    let no = c.in_ok-no-in-Some.ensures in
    let s = no.spelled in
    record {
      spelled = inr (c.in-Some.behind.now, s.0, (_, c.in-Some.ensures), s.1, s.2);
      shorter = omega (arith, ap length c.in-Some.ensures, no.shorter);
      read = λ behind. enter_else (suc c.args.depth) _ c.args.tokens.now c.in-Some.behind.now _ (WordPart FI ∷ behind) c.in-Some.ensures ∙ no.read behind;
    }

pub second_part-returns-in_ok-rest-in-None : goal.second_part-returns-in_ok-rest-in-None
second_part-returns-in_ok-rest-in-None t c =
    let fi = c.in_ok-rest-in-None.ensures.read in
    record {
      spelled = inl (c.new.ensures.items, (_, fi.0));
      shorter = omega (arith, ap length fi.0);
      read = λ behind. drop_else (suc c.args.depth) c.args.tokens.now _ (WordPart FI ∷ behind) c.in-None.ensures ∙ fi.1 behind;
    }

pub branched-returns : goal.branched-returns
branched-returns t c =
    let d = suc c.args.depth in
    let test = c.in_ok-test.ensures in
    let yes = c.in_ok-yes.ensures in
    let no = c.in_ok-no.ensures in
    let x = test.spelled in
    record {
      spelled = λ before b. elim no.spelled [
        | inl n ↦ branched c.args.depth c.args.at c.in_ok-test.test c.in_ok-yes.yes c.in_ok-no.no before c.args.tokens.now x.0 c.in_ok-test.rest.now c.in_ok-yes.rest.now c.in_ok-no.rest.now c.requires.depth b x.1 x.2 yes.spelled n.0 n.1
        | inr n ↦ branched_twice c.args.depth c.args.at c.in_ok-test.test c.in_ok-yes.yes c.in_ok-no.no before c.args.tokens.now x.0 c.in_ok-test.rest.now c.in_ok-yes.rest.now n.0 n.1 c.in_ok-no.rest.now c.requires.depth b x.1 x.2 yes.spelled n.2 n.3 n.4
      ];
      shorter = omega (arith, test.shorter, yes.shorter, no.shorter);
      read = λ behind. test.read (StmtsPart d ∷ ElsePart d ∷ WordPart FI ∷ behind) ∙ yes.read (ElsePart d ∷ WordPart FI ∷ behind) ∙ no.read behind;
    }

pub looped-returns : goal.looped-returns
looped-returns t c =
    let d = suc c.args.depth in
    let test = c.in_ok-test.ensures in
    let body = c.in_ok-body.ensures in
    let x = test.spelled in
    let y = body.spelled in
    record {
      spelled = λ before b. looped c.args.depth c.args.at c.in_ok-test.test c.in_ok-body.body before c.args.tokens.now x.0 c.in_ok-test.rest.now y.0 c.in_ok-body.rest.now c.requires.depth b x.1 x.2 y.1 y.2;
      shorter = omega (arith, test.shorter, body.shorter);
      read = λ behind. test.read (StmtsPart d ∷ WordPart OD ∷ behind) ∙ body.read behind;
    }

pub stmts-returns-in_default-behind_sign : goal.stmts-returns-in_default-behind_sign
stmts-returns-in_default-behind_sign t c =
    let s = rw c.in-Some.is at c.in_ok-stmt.ensures in
    let i = c.each.invariant in
    record {
      spelled = stmts_last c.args.depth c.in-Some.stmt c.each.stmts.items _ c.args.tokens.now c.each.rest.now c.in-Some.behind.now c.in_ok-push.ensures.items s.0 i.spelled;
      shorter = omega (arith, s.1, i.shorter);
      read = λ behind. i.read behind ∙ s.2 behind ∙ drop_stmts c.args.depth c.in-Some.behind.now _ behind c.in_default-behind_sign.ensures;
    }

pub stmts-each-preserved : goal.stmts-each-preserved
stmts-each-preserved t c =
    let s = rw c.in-Some.is at c.in_ok-stmt.ensures in
    let i = c.each.invariant in
    record {
      spelled = λ ss z m. stmts_step c.args.depth c.in-Some.stmt c.each.stmts.items _ ss c.args.tokens.now c.each.rest.now c.in-Some.behind.now c.in-Some-behind_sign.after.now z c.in_ok-push.ensures.items s.0 (_, c.in-Some-behind_sign.ensures) i.spelled m;
      shorter = omega (arith, s.1, ap length c.in-Some-behind_sign.ensures, i.shorter);
      read = λ behind. i.read behind ∙ s.2 behind ∙ enter_stmts c.args.depth _ c.in-Some.behind.now c.in-Some-behind_sign.after.now _ behind c.in-Some-behind_sign.ensures;
    }

pub stmts-returns : goal.stmts-returns
stmts-returns t c =
    let none = rw c.in_default.is at c.in_ok-stmt.ensures in
    let i = c.each.invariant in
    record {
      spelled = stmts_all c.args.depth c.each.stmts.items c.args.tokens.now c.each.rest.now i.spelled;
      shorter = i.shorter;
      read = λ behind. i.read behind ∙ none behind;
    }
