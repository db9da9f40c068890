use Rattle.std.proofs.Common.{◌∷◌, ◌∙◌, sym, ap, arith, length}
use Rattle.std.proofs.lemmas.Result.{err_from_is_err_and}
use Rattle.lang_model.specs.Stop.{MoreRows}
use Rattle.rv_parse.proofs.RowSteps.{rows_begin, enter_rows, drop_more_rows, rows_step, rows_all}
use Rattle.rv_parse.proofs.rows.rows.Goals as goal

pub returns-in_err-first : goal.returns-in_err-first
returns-in_err-first c =
    let p = err_from_is_err_and c.from_residual.result c.from_residual.ensures.1 in
    rw (p.1, p.2) (λ n behind. rows_begin c.args.tokens.now _ behind (sym c.if-not-begins_number.ensures) ∙ c.in_err-first.ensures n (MoreRows ∷ behind))

pub rows-preserved : goal.rows-preserved
rows-preserved c =
    let i = c.rows.invariant in
    let next = c.in_ok-next.ensures in
    record {
      spelled = λ rs z s. rows_step c.in_ok-next.next c.rows.rows.items _ rs c.args.tokens.now c.rows.rest.now c.in-Some.behind.now c.in_ok-next.behind.now z c.in_ok-push-2.ensures.items (_, c.in-Some.ensures) next.spelled i.spelled s;
      shorter = omega (arith, next.shorter, ap length c.in-Some.ensures, i.shorter);
      read = λ behind. i.read behind ∙ enter_rows _ c.rows.rest.now c.in-Some.behind.now _ behind c.in-Some.ensures ∙ next.read (MoreRows ∷ behind);
    }

pub returns : goal.returns
returns c =
    let i = c.rows.invariant in
    record {
      spelled = rows_all c.rows.rows.items c.args.tokens.now c.rows.rest.now i.spelled;
      shorter = i.shorter;
      read = λ behind. i.read behind ∙ drop_more_rows c.rows.rest.now _ behind c.in_default.ensures;
    }
