use Rattle.std.proofs.Common.{◌≡◌, ◌≤◌, ◌++◌, List, ◌∷◌, length}
use Rattle.lang_model.specs.declared.rows.Column.{Column}
use Rattle.lang_model.specs.declared.token.Token.{Token}
use Rattle.lang_model.specs.Spelling.{SpellsColumns, SpellsMoreColumns}
use Rattle.lang_model.specs.Stop.{Part, FromOne, MoreColumns, stop_of}
use Rattle.rv_tokens.specs.Endings.{ending_of}
use Rattle.rv_parse.proofs.rows.columns.Given as goal

abbrev pub invariant-columns : goal.invariant-columns
invariant-columns l = record {
  spelled : (cs : List Column) (z : List Token) → SpellsMoreColumns cs l.rest z → SpellsColumns (l.cols.items ++ cs) l.fn.tokens z;
  shorter : length l.rest ≤ length l.fn.tokens;
  read : (behind : List Part) → stop_of (FromOne ∷ MoreColumns ∷ behind) l.fn.tokens (ending_of l.end) ≡ stop_of (MoreColumns ∷ behind) l.rest (ending_of l.end);
}

abbrev pub decreases-columns : goal.decreases-columns
decreases-columns l = length l.rest
