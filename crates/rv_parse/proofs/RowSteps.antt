-- One step of the readers of listed relations each.
use Rattle.std.proofs.Common.{◌≡◌, ◌≤◌, true, false, List, [], ◌∷◌, ◌++◌, refl, sym, ap, ◌∙◌, subst, append_assoc, zero, suc}
use Rattle.std.proofs.lemmas.Bool.{false≢true}
use Rattle.std.proofs.lemmas.List.{append-nil}
use Rattle.lang_model.specs.declared.syntax.Place.{Place}
use Rattle.lang_model.specs.declared.rows.Column.{Column}
use Rattle.lang_model.specs.declared.rows.Row.{Row}
use Rattle.lang_model.specs.declared.token.Kind.{Kind}
use Rattle.lang_model.specs.declared.token.Kind.TheVariants.{Number, Sign}
use Rattle.lang_model.specs.declared.token.Token.{Token}
use Rattle.lang_model.specs.Taken.{TakesAt, Takes}
use Rattle.lang_model.specs.Lexed.{Ending}
use Rattle.lang_model.specs.Spelling.{SpellsMoreColumns, SpellsColumns, SpellsRow, SpellsMoreRows, SpellsRows}
use Rattle.lang_model.specs.Stop.{Part, FromOne, RowsPart, MoreRows, MoreColumns, row_parts, NotBegun, entered, fault_at, what_of, step, stop_of}
use Rattle.rv_parse.specs.Readers.{begins, is_number, begins_number}
use Rattle.rv_parse.proofs.Optional.{dropped_at, dropped_end, drop_sign, enter_sign, begun_columns, begun_rows}

pub drop_columns : (tokens : List Token) (e : Ending) (behind : List Part) → begins 44 tokens ≡ false → stop_of (MoreColumns ∷ behind) tokens e ≡ stop_of behind tokens e
drop_columns = drop_sign MoreColumns 44 _ begun_columns

pub enter_columns : (at : Place) (tokens rest : List Token) (e : Ending) (behind : List Part) → TakesAt at (Sign 44) tokens rest → stop_of (MoreColumns ∷ behind) tokens e ≡ stop_of (FromOne ∷ MoreColumns ∷ behind) rest e
enter_columns = enter_sign MoreColumns 44 _ begun_columns

pub drop_more_rows : (tokens : List Token) (e : Ending) (behind : List Part) → begins 59 tokens ≡ false → stop_of (MoreRows ∷ behind) tokens e ≡ stop_of behind tokens e
drop_more_rows = drop_sign MoreRows 59 _ begun_rows

pub enter_rows : (at : Place) (tokens rest : List Token) (e : Ending) (behind : List Part) → TakesAt at (Sign 59) tokens rest → stop_of (MoreRows ∷ behind) tokens e ≡ stop_of (row_parts ++ MoreRows ∷ behind) rest e
enter_rows = enter_sign MoreRows 59 _ begun_rows

-- where a number comes, rows begin as one row
pub rows_begin : (tokens : List Token) (e : Ending) (behind : List Part) → begins_number tokens ≡ true → stop_of (RowsPart ∷ behind) tokens e ≡ stop_of (row_parts ++ MoreRows ∷ behind) tokens e
rows_begin [] e behind h = absurd (false≢true h)
rows_begin (t ∷ ts) e behind h = at t.kind h
  where
    at : (k : Kind) → is_number k ≡ true → fault_at t.at (what_of (RowsPart ∷ behind)) (step k (RowsPart ∷ behind)) (λ next. stop_of next ts e) ≡ fault_at t.at (what_of (row_parts ++ MoreRows ∷ behind)) (step k (row_parts ++ MoreRows ∷ behind)) (λ next. stop_of next ts e)
    at (Number zero) h = refl
    at (Number (suc n)) h = refl
    at _ h = absurd (false≢true h)

pub drop_rows : (tokens : List Token) (e : Ending) (behind : List Part) → begins_number tokens ≡ false → stop_of (RowsPart ∷ behind) tokens e ≡ stop_of behind tokens e
drop_rows [] e behind h = dropped_end RowsPart e behind refl
drop_rows (t ∷ ts) e behind h = dropped_at RowsPart t ts e behind refl (at t.kind h)
  where
    at : (k : Kind) → is_number k ≡ false → entered RowsPart k ≡ NotBegun
    at (Number n) h = absurd (false≢true (sym h))
    at _ h = refl

-- ---- lists, one more at the end
-- one more column
pub columns_step : (c : Column) (items new cs : List Column) (start rest mid after end : List Token) → new ≡ items ++ c ∷ [] → Takes (Sign 44) rest mid → TakesAt c.at (Number c.col) mid after → 1 ≤ c.col
    → ((xs : List Column) (z : List Token) → SpellsMoreColumns xs rest z → SpellsColumns (items ++ xs) start z) → SpellsMoreColumns cs after end → SpellsColumns (new ++ cs) start end
columns_step c items new cs start rest mid after end eq comma t p so_far more =
    subst (λ xs. SpellsColumns xs start end) (sym (ap (λ xs. xs ++ cs) eq ∙ append_assoc items (c ∷ []) cs)) (so_far (c ∷ cs) end (mid, after, comma, t, p, more))

pub columns_all : (items : List Column) (start rest : List Token) → ((xs : List Column) (z : List Token) → SpellsMoreColumns xs rest z → SpellsColumns (items ++ xs) start z) → SpellsColumns items start rest
columns_all items start rest so_far = subst (λ xs. SpellsColumns xs start rest) (append-nil items) (so_far [] rest refl)

-- one more row
pub rows_step : (r : Row) (items new rs : List Row) (start rest mid after end : List Token) → new ≡ items ++ r ∷ [] → Takes (Sign 59) rest mid → SpellsRow r mid after
    → ((xs : List Row) (z : List Token) → SpellsMoreRows xs rest z → SpellsRows (items ++ xs) start z) → SpellsMoreRows rs after end → SpellsRows (new ++ rs) start end
rows_step r items new rs start rest mid after end eq semicolon s so_far more =
    subst (λ xs. SpellsRows xs start end) (sym (ap (λ xs. xs ++ rs) eq ∙ append_assoc items (r ∷ []) rs)) (so_far (r ∷ rs) end (mid, after, semicolon, s, more))

pub rows_all : (items : List Row) (start rest : List Token) → ((xs : List Row) (z : List Token) → SpellsMoreRows xs rest z → SpellsRows (items ++ xs) start z) → SpellsRows items start rest
rows_all items start rest so_far = subst (λ xs. SpellsRows xs start rest) (append-nil items) (so_far [] rest refl)
