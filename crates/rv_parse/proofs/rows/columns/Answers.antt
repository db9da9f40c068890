use Rattle.std.proofs.Common.{◌∷◌, ◌∙◌, ap, arith, length}
use Rattle.lang_model.specs.Stop.{MoreColumns}
use Rattle.rv_parse.proofs.RowSteps.{enter_columns, drop_columns, columns_step, columns_all}
use Rattle.rv_parse.proofs.rows.columns.Goals as goal

pub columns-preserved : goal.columns-preserved
columns-preserved c =
    let i = c.columns.invariant in
    let next = c.in_ok-col-2.ensures.read in
    record {
      spelled = λ cs z s. columns_step (record { col = c.in_ok-col-2.col; at = c.in_ok-col-2.at }) c.columns.cols.items _ cs c.args.tokens.now c.columns.rest.now c.in-Some.behind.now c.in_ok-col-2.behind.now z c.in_ok-push-2.ensures.items (_, c.in-Some.ensures) next.0 next.1 i.spelled s;
      shorter = omega (arith, ap length next.0, ap length c.in-Some.ensures, i.shorter);
      read = λ behind. i.read behind ∙ enter_columns _ c.columns.rest.now c.in-Some.behind.now _ behind c.in-Some.ensures ∙ next.2 (MoreColumns ∷ behind);
    }

pub returns : goal.returns
returns c =
    let i = c.columns.invariant in
    record {
      spelled = columns_all c.columns.cols.items c.args.tokens.now c.columns.rest.now i.spelled;
      shorter = i.shorter;
      read = λ behind. i.read behind ∙ drop_columns c.columns.rest.now _ behind c.in_default.ensures;
    }
