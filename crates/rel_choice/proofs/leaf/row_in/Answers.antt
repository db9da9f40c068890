use Rattle.std.proofs.Common.{◌≡◌, ◌∙◌, ap, sym, inl, inr, arith}
use Rattle.std.proofs.lemmas.Bool.{cases_lt}
use Rattle.rel_model.specs.Cells.{bits_cells}
use Rattle.rel_choice.specs.Leasts.{row_meets}
use Rattle.rel_choice.proofs.RowHalves.{meets-some, meets-none}
use Rattle.rel_choice.proofs.leaf.row_in.Goals as goal

pub returns-then-is_some : goal.returns-then-is_some
returns-then-is_some c = record {
  low = c.rows.auto.row;
  high = c.rows-test.true;
  passes = meets-some (bits_cells c.args.side c.args.bits c.rows.row) c.args.side c.column_in.result c.column_in.ensures (sym c.is_some.ensures ∙ c.if-is_some.true);
  first = c.rows.invariant;
}

pub rows-preserved : goal.rows-preserved
rows-preserved c = λ x a b. elim (cases_lt x c.rows.row) [
  | inl l ↦ c.rows.invariant x a l
  | inr l ↦ (let e : x ≡ c.rows.row = omega arith in ap (row_meets c.args.side (bits_cells c.args.side c.args.bits)) e ∙ meets-none (bits_cells c.args.side c.args.bits c.rows.row) c.args.side c.column_in.result c.column_in.ensures (sym c.is_some.ensures ∙ c.if-is_some.false))
]
