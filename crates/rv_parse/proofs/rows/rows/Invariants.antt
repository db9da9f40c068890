use Rattle.std.proofs.Common.{◌≡◌, ◌≤◌, ◌++◌, List, ◌∷◌, length}
use Rattle.lang_model.specs.declared.rows.Row.{Row}
use Rattle.lang_model.specs.declared.token.Token.{Token}
use Rattle.lang_model.specs.Spelling.{SpellsRows, SpellsMoreRows}
use Rattle.lang_model.specs.Stop.{Part, RowsPart, MoreRows, stop_of}
use Rattle.rv_tokens.specs.Endings.{ending_of}
use Rattle.rv_parse.proofs.rows.rows.Given as goal

abbrev pub invariant-rows : goal.invariant-rows
invariant-rows l = record {
  spelled : (rs : List Row) (z : List Token) → SpellsMoreRows rs l.rest z → SpellsRows (l.rows.items ++ rs) l.fn.tokens z;
  shorter : length l.rest ≤ length l.fn.tokens;
  read : (behind : List Part) → stop_of (RowsPart ∷ behind) l.fn.tokens (ending_of l.end) ≡ stop_of (MoreRows ∷ behind) l.rest (ending_of l.end);
}

abbrev pub decreases-rows : goal.decreases-rows
decreases-rows l = length l.rest
