use Rattle.std.proofs.Common.{◌≡◌, ◌∙◌, ◌&&◌, sym, ap, inl, inr}
use Rattle.std.specs.Prelude.{is_some}
use Rattle.std.proofs.lemmas.Bool.{cases_Bool}
use Rattle.rel_model.specs.Cells.{bits_cells, some_below}
use Rattle.rel_choice.proofs.RowHalves.{meets-some, meets-none}
use Rattle.rel_choice.proofs.leaf.row_is_shared.Goals as goal

pub returns : goal.returns
returns c =
    let a = meets-some (bits_cells c.args.side c.args.a c.args.row) c.args.side c.column_in.result c.column_in.ensures c.if-is_none.ensures in
    let b : some_below c.args.side (bits_cells c.args.side c.args.b c.args.row) ≡ is_some c.column_in-2.result = elim (cases_Bool (is_some c.column_in-2.result)) [
      | inl e ↦ meets-some (bits_cells c.args.side c.args.b c.args.row) c.args.side c.column_in-2.result c.column_in-2.ensures e ∙ sym e
      | inr e ↦ meets-none (bits_cells c.args.side c.args.b c.args.row) c.args.side c.column_in-2.result c.column_in-2.ensures e ∙ sym e
    ] in
    c.is_some.ensures ∙ sym b ∙ ap (λ x. x && some_below c.args.side (bits_cells c.args.side c.args.b c.args.row)) (sym a)
