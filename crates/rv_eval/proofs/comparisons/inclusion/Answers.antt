use Rattle.std.proofs.Common.{◌∙◌, sym}
use Rattle.rv_eval.proofs.Operating.{both_fit}
use Rattle.rv_eval.proofs.Testing.{within_test}
use Rattle.rv_eval.proofs.Basing.{incl_fits, incl_misfit}
use Rattle.rv_eval.proofs.Performing.{tested_by, lack_performs, truth_performs, fault_performs}
use Rattle.rv_eval.proofs.comparisons.inclusion.Goals as goal

pub included-requires : goal.included-requires
included-requires g c =
    let a = c.shape_in-a.ensures in
    let b = c.shape_in-b.ensures in
    let both = both_fit _ _ _ _ (sym c.alike.ensures ∙ c.if-alike.true) in
    record {
      left = c.requires.left;
      right = c.requires.right;
      rows = sym a.rows ∙ both.0 ∙ b.rows;
      cols = sym a.cols ∙ both.1 ∙ b.cols;
    }

pub returns-in-Err : goal.returns-in-Err
returns-in-Err g c =
    let a = c.shape_in-a.ensures in
    let b = c.shape_in-b.ensures in
    let alike = sym c.alike.ensures ∙ c.if-alike.true in
    let is = incl_fits c.args.at a.typed b.typed alike in
    let e = c.in-Err.ensures in
    lack_performs is (tested_by a.rows a.cols e.keeps e.room) e.cause

pub returns-in-Ok : goal.returns-in-Ok
returns-in-Ok g c =
    let a = c.shape_in-a.ensures in
    let b = c.shape_in-b.ensures in
    let alike = sym c.alike.ensures ∙ c.if-alike.true in
    let is = incl_fits c.args.at a.typed b.typed alike in
    let rows = a.row_size ∙ a.rows in
    let cols = a.col_size ∙ a.cols in
    let told = within_test _ _ _ _ c.in-Ok.yes rows cols c.in-Ok.ensures.value in
    truth_performs is told (tested_by a.rows a.cols c.in-Ok.ensures.keeps c.in-Ok.ensures.room) c.truth.ensures

pub returns-else-alike : goal.returns-else-alike
returns-else-alike g c =
    let a = c.shape_in-a.ensures in
    let b = c.shape_in-b.ensures in
    let apart = sym c.alike.ensures ∙ c.if-alike.false in
    fault_performs (incl_misfit c.args.at a.typed b.typed apart) c.not_alike.ensures
