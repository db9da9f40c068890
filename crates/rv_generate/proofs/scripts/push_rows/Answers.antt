use Rattle.std.proofs.Common.{◌≡◌, ◌≤◌, ◌+◌, ◌*◌, ◌-◌, ◌∙◌, ◌++◌, codes, ap, sym, arith, lit≤}
use Rattle.rv_generate.specs.Generator.{step, value_of, after, row_text, rows_text}
use Rattle.rv_generate.proofs.Behind.{then_one}
use Rattle.rv_generate.proofs.Drawing.{after-none, after-two, rows-first, rows-more}
use Rattle.rv_generate.proofs.scripts.push_rows.Goals as goal

pub rows-init : goal.rows-init
rows-init c =
    let x = c.args.draws.now.state in
    record {
      text = c.in_ok-push_drawn_row.ensures.text ∙ ap (λ zs. c.args.out.now.items ++ zs) (rows-first x);
      draws = after-two x 0 x _ (sym (after-none x)) c.in_ok-push_drawn_row.ensures.draws;
    }

pub rows-preserved : goal.rows-preserved
rows-preserved c =
    let x = c.args.draws.now.state in
    let old = c.args.out.now.items in
    let i = c.rows.vertex in
    let s = c.rows.draws.state in
    let inv = c.rows.invariant in
    let before = rows_text x (i - 1) in
    let row = row_text (i + 1) (value_of (step s)) (value_of (step (step s))) in
    let parted = then_one old _ _ before (codes "; ") inv.text c.in_ok-extend_from_slice.ensures.items in
    record {
      text = then_one old _ _ (before ++ codes "; ") row parted c.in_ok-push_drawn_row-2.ensures.text
          ∙ ap (λ zs. old ++ zs) (rows-more x i s c.rows.auto.vertex inv.draws);
      draws = after-two x i s _ inv.draws c.in_ok-push_drawn_row-2.ensures.draws;
    }

pub returns-clause-text : goal.returns-clause-text
returns-clause-text c =
    let last : c.rows.vertex ≤ 64 = c.rows.auto.vertex-end (lit≤ tt) in
    let all : c.rows.vertex ≡ 64 = omega (arith, c.rows-test.false) in
    c.rows.invariant.text ∙ ap (λ n. c.args.out.now.items ++ rows_text c.args.draws.now.state (n - 1)) all

pub returns-clause-draws : goal.returns-clause-draws
returns-clause-draws c =
    let last : c.rows.vertex ≤ 64 = c.rows.auto.vertex-end (lit≤ tt) in
    let all : c.rows.vertex ≡ 64 = omega (arith, c.rows-test.false) in
    c.rows.invariant.draws ∙ ap (λ n. after c.args.draws.now.state (2 * n)) all
