use Rattle.std.proofs.Common.{◌++◌, ◌∙◌, refl, sym, ap, arith, append_assoc}
use Rattle.std.proofs.lemmas.List.{append-nil}
use Rattle.std.specs.List.{range_with_len, flat_map}
use Rattle.run_model.specs.Texts.{row_text, rows_text}
use Rattle.rel_model.specs.Worker.{set_of}
use Rattle.rel_model.proofs.Workers.{keeps_itself, keeps_trans, keeps_stands, keeps_set}
use Rattle.rv_print.proofs.Lines.{lines_more}
use Rattle.rv_print.proofs.rows.push_rows.Goals as goal

pub rows-init : goal.rows-init
rows-init g c = record { text = sym (append-nil c.args.out.now.items); keeps = keeps_itself _; room = omega arith; misses = refl }

pub push_row-requires-clause-standing : goal.push_row-requires-clause-standing
push_row-requires-clause-standing g c = keeps_stands _ _ c.args.rel c.rows.invariant.keeps c.requires.standing

pub returns-in_err-push_row-clause-keeps : goal.returns-in_err-push_row-clause-keeps
returns-in_err-push_row-clause-keeps g c = keeps_trans _ _ _ c.rows.invariant.keeps c.in_err-push_row.ensures.keeps

pub returns-in_err-push_row-clause-room : goal.returns-in_err-push_row-clause-room
returns-in_err-push_row-clause-room g c = omega (arith, c.rows.invariant.room, c.in_err-push_row.ensures.room)

pub returns-in_err-push_row-clause-misses : goal.returns-in_err-push_row-clause-misses
returns-in_err-push_row-clause-misses g c = c.in_err-push_row.ensures.misses ∙ c.rows.invariant.misses

pub rows-preserved : goal.rows-preserved
rows-preserved g c =
    let R = set_of (g.E.Core.worker c.args.engine.now) c.args.rel in
    let i = c.rows.i in
    let old = c.args.out.now.items in
    let inv = c.rows.invariant in
    record {
      text = c.in_ok-push_row.ensures.text ∙ ap (λ zs. zs ++ row_text (set_of (g.E.Core.worker c.rows.engine) c.args.rel) i) inv.text
          ∙ ap (λ r. (old ++ flat_map (row_text R) (range_with_len 0 i)) ++ row_text r i) (keeps_set _ _ c.args.rel inv.keeps c.requires.standing)
          ∙ append_assoc old (flat_map (row_text R) (range_with_len 0 i)) (row_text R i)
          ∙ ap (λ zs. old ++ zs) (sym (lines_more (row_text R) i));
      keeps = keeps_trans _ _ _ inv.keeps c.in_ok-push_row.ensures.keeps;
      room = omega (arith, inv.room, c.in_ok-push_row.ensures.room);
      misses = c.in_ok-push_row.ensures.misses ∙ inv.misses;
    }

pub returns-clause-text : goal.returns-clause-text
unfolding rows_text
returns-clause-text g c =
    let R = set_of (g.E.Core.worker c.args.engine.now) c.args.rel in
    c.rows.invariant.text ∙ ap (λ n. c.args.out.now.items ++ flat_map (row_text R) (range_with_len 0 n)) (omega (arith, g.met.E.Core.row_size c.args.engine.now c.args.rel c.requires.standing))
